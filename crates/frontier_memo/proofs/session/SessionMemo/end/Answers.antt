use Rattle.std.proofs.Common.{refl}
use Rattle.frontier_memo.proofs.SessionSteps.{ended}
use Rattle.frontier_memo.proofs.session.SessionMemo.end.Goals as goal

pub returns : goal.returns
returns c h caller adds is given =
    ended h c.args.self.now _ c.args.time caller c.args.ticket c.args.item.now c.args.end.now adds _ is given refl c.requires refl refl c.end_ticket.ensures c.overwrite.ensures.written
