use Rattle.std.proofs.Common.{refl}
use Rattle.frontier_memo.proofs.SessionSteps.{begun}
use Rattle.frontier_memo.proofs.session.SessionMemo.begin.Goals as goal

pub returns : goal.returns
returns c h job format is count = begun h _ c.args.time c.args.tickets job format count refl refl c.clear.ensures.items c.clear-2.ensures.empty
