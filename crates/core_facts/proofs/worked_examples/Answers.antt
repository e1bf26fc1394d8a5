use Rattle.core_facts.proofs.Worked.{worked}
use Rattle.core_facts.proofs.worked_examples.Goals as goal

pub returns : goal.returns
returns c = worked
