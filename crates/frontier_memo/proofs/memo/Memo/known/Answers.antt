use Rattle.std.proofs.Common.{◌∙◌}
use Rattle.frontier_memo.proofs.Counting.{counted}
use Rattle.frontier_memo.proofs.memo.Memo.known.Goals as goal

pub returns : goal.returns
returns c events is = c.len.ensures.len ∙ counted events c.args.self.now is c.len.ensures.ordered
