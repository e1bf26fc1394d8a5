use Rattle.std.proofs.Common.{refl}
use Rattle.frontier_memo.proofs.SessionSteps.{put_out}
use Rattle.frontier_memo.proofs.session.SessionMemo.put_out.Goals as goal

pub returns-clause-ok : goal.returns-clause-ok
returns-clause-ok c h is next = put_out h c.args.self.now _ c.args.one is next refl refl c.in_ok-push.ensures.items refl
