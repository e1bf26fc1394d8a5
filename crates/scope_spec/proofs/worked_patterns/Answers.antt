use Rattle.scope_spec.proofs.Worked.{worked_patterns}
use Rattle.scope_spec.proofs.worked_patterns.Goals as goal

pub returns : goal.returns
returns c = worked_patterns
