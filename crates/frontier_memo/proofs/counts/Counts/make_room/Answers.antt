use Rattle.std.proofs.Common.{◌∙◌}
use Rattle.frontier_memo.proofs.counts.Counts.make_room.Goals as goal

pub returns-clause-same : goal.returns-clause-same
returns-clause-same c h is =
    record { spent = λ class. c.make_room.ensures.same class ∙ is.spent class; pages = is.pages; bytes = is.bytes; end = is.end }
