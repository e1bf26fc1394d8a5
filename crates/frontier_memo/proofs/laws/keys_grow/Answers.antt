use Rattle.frontier_memo.proofs.Counting.{keys_more}
use Rattle.frontier_memo.proofs.laws.keys_grow.Goals as goal

pub returns : goal.returns
returns c = keys_more
