use Rattle.record_spec.proofs.Worked.{worked}
use Rattle.record_spec.proofs.laws.worked_examples.Goals as goal

pub returns : goal.returns
returns c = worked
