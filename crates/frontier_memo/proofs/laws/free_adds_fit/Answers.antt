use Rattle.frontier_memo.proofs.Telling.{new_adds_fit}
use Rattle.frontier_memo.proofs.laws.free_adds_fit.Goals as goal

pub returns : goal.returns
returns c = new_adds_fit
