-- The rule of the turn lock, as plain data.
--
-- Callers draw the tickets 0, 1, 2 and so on, and the tickets are served in that order. One slot has the value.
-- Word 0 counts what was done to the value, word 1 is the ticket to draw next, and word 2 the ticket that is served.
-- Each word is a number modulo 2 ^ 64. The numbers themselves, which proofs alone see, have no bound.
--
-- Between any two steps:
-- * The ticket that is served is at most the ticket to draw next. Each ticket from the first to before the second is
--   in the hands of one view, which waits for its turn or has the turn.
-- * A view has the turn only by the ticket that is served. So no two views have it at once.
-- * While a view has the turn the slot is out with it, and else the slot is home, with the value.
-- * The caller's rule holds of the value at the last count and of all views.
use Rattle.std.specs.Prelude.{◌≡◌, ℕ, ◌%◌, ◌^◌, ◌<◌, ◌≤◌, List, [], ◌∷◌, map}
use mathlib.Core.Option.{none, some}
use lib.ListN.{get_elem?}
use Rattle.atomic_table.specs.Table.{State}
use Rattle.turn_lock.specs.declared.Doing.{Doing}
use Rattle.turn_lock.specs.declared.Stage.{Stage}
use Rattle.turn_lock.specs.declared.Stage.TheVariants.{Idle, Waiting, Holding}

-- the caller's part of a view
abbrev pub client : {S V : Type 0} → Doing S V → V
client d = d.client

-- the view has the turn
abbrev pub HasTurn : {S : Type 0} → Stage S → Type 0
HasTurn (Holding t x) = Unit {0}
HasTurn _ = ⊥

-- the view waits for the turn t, or has it
abbrev pub HasTicket : {S : Type 0} → ℕ → Stage S → Type 0
HasTicket t (Waiting u) = u ≡ t
HasTicket t (Holding u x) = u ≡ t
HasTicket t Idle = ⊥

module _ {S V : Type 0} where
  -- a view at a stage
  abbrev pub doing : Stage S → V → Doing S V
  doing stage v = record { stage = stage; client = v }

  -- a view that has no ticket
  abbrev pub idle : V → Doing S V
  idle v = doing Idle v

  -- What the rule says of the view of seat j: its ticket t is one that this seat drew and that is not served yet, its
  -- client may draw, and if it has the turn, its ticket is served and it notes the value at the last count
  abbrev pub Stands : ℕ → ℕ → (ℕ → ℕ) → S → (V → Type 0) → ℕ → V → Stage S → Type 0
  Stands ticket serving who now may j v Idle = Unit {0}
  Stands ticket serving who now may j v (Waiting t) = (serving ≤ t) × (t < ticket) × (who t ≡ j) × may v
  Stands ticket serving who now may j v (Holding t x) = (t ≡ serving) × (t < ticket) × (who t ≡ j) × may v × (x ≡ now)

  -- no view has the turn
  abbrev pub NoneHasTurn : List (Doing S V) → Type 0
  NoneHasTurn views = (j : ℕ) (d : Doing S V) → get_elem? views j ≡ some d → ¬ HasTurn d.stage

  -- some view has the turn
  abbrev pub SomeHasTurn : List (Doing S V) → Type 0
  SomeHasTurn views = (j : ℕ) × (d : Doing S V) × (get_elem? views j ≡ some d) × HasTurn d.stage

  -- two views that have the turn are one
  abbrev pub OneHasTurn : List (Doing S V) → Type 0
  OneHasTurn views = (i j : ℕ) (d e : Doing S V) → get_elem? views i ≡ some d → get_elem? views j ≡ some e → HasTurn d.stage → HasTurn e.stage → i ≡ j

-- The rule: `ticket` is the one to draw next, `who` the seat that drew a ticket, and `now` the value at the last count
pub record InTurn {S V : Type 0} (count : S → ℕ) (may : V → Type 0) (holds : S → List V → Type 0) (s : State S (Doing S V)) : Type 0 where
  pub ticket : ℕ
  pub serving : ℕ
  pub who : ℕ → ℕ
  pub now : S
  pub words : s.words ≡ count now % 2 ^ 64 ∷ ticket % 2 ^ 64 ∷ serving % 2 ^ 64 ∷ []
  pub order : serving ≤ ticket
  pub line : (t : ℕ) → serving ≤ t → t < ticket → (d : Doing S V) × (get_elem? s.views (who t) ≡ some d) × HasTicket t d.stage
  pub each : (j : ℕ) (d : Doing S V) → get_elem? s.views j ≡ some d → Stands ticket serving who now may j d.client d.stage
  pub out : SomeHasTurn s.views → s.homes ≡ none ∷ []
  pub home : NoneHasTurn s.views → s.homes ≡ some now ∷ []
  pub kept : holds now (map client s.views)
