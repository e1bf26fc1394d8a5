-- The parts of one tally, dealt out to callers.
use Rattle.std.specs.Prelude.{◌≡◌, ℕ, ◌+◌, ◌<◌, ◌≤◌, List}
use mathlib.Core.Option.{some}
use lib.ListN.{get_elem?}
use Rattle.atomic_table.specs.Seated.{TableId}
use Rattle.turn_client.specs.declared.part.Part.{Part}

-- of n parts, that at place k: they have the numbers from 31 down, and the last has all that are left
abbrev pub IsPlaced : ℕ → ℕ → Part → Type 0
IsPlaced n k p = (p.first < p.end) × (p.end + k ≡ 32) × (k + 1 < n → p.first + k ≡ 31) × (k + 1 ≡ n → p.first ≡ 0)

-- a part that has added this much, and may add as much as `room`
abbrev pub IsAt : ℕ → ℕ → Part → Type 0
IsAt made room p = (p.made ≡ made) × (room ≤ p.left)

-- parts of n that were dealt out, each of which added this much
abbrev pub AreDealt : TableId → ℕ → ℕ → ℕ → List Part → Type 0
AreDealt id n made room parts = (k : ℕ) (p : Part) → get_elem? parts k ≡ some p → (p.pass.table_id ≡ id) × IsPlaced n k p × IsAt made room p

-- a part may add this much more
abbrev pub IsReady : TableId → ℕ → Part → Type 0
IsReady id turns p = (p.pass.table_id ≡ id) × (p.first < p.end) × (turns ≤ p.left)

-- a part has added this much more
abbrev pub HasAdded : TableId → ℕ → Part → Part → Type 0
HasAdded id turns p q = (q.pass.table_id ≡ id) × (q.first ≡ p.first) × (q.end ≡ p.end) × (q.made ≡ p.made + turns)
