use Rattle.std.proofs.Common.{refl}
use Rattle.frontier_memo.proofs.Taking.{session_taken}
use Rattle.frontier_memo.proofs.memo.Memo.take_session.Goals as goal

pub returns : goal.returns
returns c h job format is =
    session_taken h c.args.self.now _ c.args.time job format is refl refl refl c.max-self.ensures c.or-self.ensures (c.begin.ensures h job format is.session is.tickets) refl
