use Rattle.visit_spec.proofs.Worked.{worked}
use Rattle.visit_spec.proofs.worked_examples.Goals as goal

pub returns : goal.returns
returns c = worked
