-- How a pass lends the value, for changes in place.
use Rattle.std.specs.Borrow.{Lends, MutBor, Fml}
use denote.RattleType.{RattleType}
use Rattle.atomic_table.specs.Lent.{seat_with}
use Rattle.atomic_table.specs.contracts.shared.Seat.{the_row as seat_row}
use Rattle.turn_lock.specs.contracts.Doing.{the_row as doing_row}
use Rattle.turn_lock.specs.Passes.{Pass}

-- the pass ends with the last value behind r in its slot
abbrev pub LendsValue : (S V : RattleType) → MutBor (Pass S.Denot V.Denot) → MutBor S.Denot → Fml
LendsValue S V pass r = Lends (seat_row S (doing_row S V)) S pass r (seat_with pass.now 0)
