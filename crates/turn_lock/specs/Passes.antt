-- Words for the clauses on a lock and its passes.
use Rattle.std.specs.Prelude.{◌≡◌}
use Rattle.atomic_table.specs.declared.shared.Seat.{Seat}
use Rattle.turn_lock.specs.declared.Doing.{Doing}
use Rattle.turn_lock.specs.declared.TurnLock.{TurnLock}

abbrev pub Pass : Type 0 → Type 0 → Type 0
Pass S V = Seat S (Doing S V)

module _ {S V : Type 0} where
  -- what the pass knows
  abbrev pub view : Pass S V → V
  view p = p.me.0.client

  -- it is a pass of the same lock, with the same number
  abbrev pub IsSamePass : Pass S V → Pass S V → Type 0
  IsSamePass old new = (new.table_id ≡ old.table_id) × (new.id ≡ old.id)

module _ {S V P : Type 0} where
  -- it is a pass of this lock
  abbrev pub IsPassOf : TurnLock S V P → Pass S V → Type 0
  IsPassOf lock p = p.table_id ≡ lock.table.shared.table_id

  -- the value that the lock was made with
  abbrev pub start : TurnLock S V P → S
  start lock = lock.table.shared.key.value
