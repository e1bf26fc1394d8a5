-- What each step on the lock tells the pass that takes it: of the pass before, the number found and the pass after.
use Rattle.std.specs.Prelude.{◌≡◌, ℕ, ◌%◌, ◌^◌, [], ◌∷◌}
use Rattle.atomic_table.specs.Table.{Me}
use Rattle.turn_lock.specs.declared.Doing.{Doing}
use Rattle.turn_lock.specs.declared.Stage.TheVariants.{Idle, Waiting, Holding}
use Rattle.turn_lock.specs.Turn.{doing}

-- a pass: its view, and the slots that are out with it
abbrev pub Known : Type 0 → Type 0 → Type 0
Known S V = Me S (Doing S V)

module _ {S V : Type 0} where
  -- it has no ticket, and the slot is not out with it
  abbrev pub IsIdle : Known S V → Type 0
  IsIdle m = (m.0.stage ≡ Idle) × (m.1 ≡ [])

  -- it has the turn by the ticket t. The value was x at the last count, and is y in the slot now
  abbrev pub HasBy : ℕ → Known S V → S → S → Type 0
  HasBy t m x y = (m.0.stage ≡ Holding t x) × (m.1 ≡ (0, y) ∷ [])

  -- it has the turn. The value was x at the last count, and is y now
  abbrev pub Has : Known S V → S → S → Type 0
  Has m x y = (t : ℕ) × HasBy t m x y

  -- a ticket is drawn: the pass waits for the ticket that it found, and nothing else changes
  abbrev pub Draws : Known S V → ℕ → Known S V → Type 0
  Draws m found m' = (t : ℕ) × (found ≡ t % 2 ^ 64) × (m' ≡ (doing (Waiting t) m.0.client, m.1))

  -- one look at the ticket that is served: where it is the one that the pass waits for, the pass has the turn, and else it waits on
  abbrev pub Looks : Known S V → ℕ → Known S V → Type 0
  Looks m found m' =
      (t : ℕ) → m.0.stage ≡ Waiting t
      → (found ≡ t % 2 ^ 64 → (x : S) × (m' ≡ (doing (Holding t x) m.0.client, (0, x) ∷ [])))
      × (¬ (found ≡ t % 2 ^ 64) → m' ≡ m)

  -- a count by the pass that has the turn: the value's change from x to y becomes part of the rule, as does the pass's new view
  abbrev pub Counts : (V → S → S → V → Type 0) → Known S V → ℕ → Known S V → Type 0
  Counts then m found m' = (t : ℕ) (x y : S) → HasBy t m x y → HasBy t m' y y × then m.0.client x y m'.0.client

  -- the turn is given to the next: the slot is home again, and the pass is idle
  abbrev pub Serves : Known S V → ℕ → Known S V → Type 0
  Serves m found m' = IsIdle m' × (m'.0.client ≡ m.0.client)

  -- the pass learns a fact of its view, and nothing changes
  abbrev pub Learns : (V → Type 0) → Known S V → ℕ → Known S V → Type 0
  Learns fact m found m' = (m' ≡ m) × fact m.0.client

  -- the pass that has the turn learns a fact of its view and of the value at the last count, and nothing changes
  abbrev pub Knows : (V → S → Type 0) → Known S V → ℕ → Known S V → Type 0
  Knows told m found m' = (m' ≡ m) × ((t : ℕ) (x y : S) → HasBy t m x y → told m.0.client x)
