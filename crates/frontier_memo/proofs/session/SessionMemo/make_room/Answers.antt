use Rattle.std.proofs.Common.{◌∙◌}
use Rattle.frontier_memo.proofs.session.SessionMemo.make_room.Goals as goal

pub returns-clause-same : goal.returns-clause-same
returns-clause-same c h is =
    record { start = is.start; earlier = is.earlier; out = is.out; last = λ class. c.make_room.ensures.same class ∙ is.last class; given = is.given; ended = is.ended }
