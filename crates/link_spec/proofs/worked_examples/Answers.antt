use Rattle.link_spec.proofs.Worked.{worked}
use Rattle.link_spec.proofs.worked_examples.Goals as goal

pub returns : goal.returns
returns c = worked
