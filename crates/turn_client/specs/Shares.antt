-- What the parts of a tally know, and the rule that ties them to the total.
use Rattle.std.specs.Prelude.{◌≡◌, ℕ, ◌+◌, ◌-◌, ◌<◌, ◌≤◌, List, [], ◌∷◌}
use mathlib.Core.Option.{some}
use lib.ListN.{get_elem?}
use Rattle.turn_client.specs.declared.share.Share.{Share}

-- the highest total
abbrev pub highest : ℕ
highest = 18446744073709551615

-- a share of these four numbers
abbrev pub share : ℕ → ℕ → ℕ → ℕ → Share
share first end made left = record { first = first; end = end; made = made; left = left }

-- the first part: all numbers, and all the room above the start
abbrev pub whole : ℕ → Share
whole start = share 0 32 0 (highest - start)

-- a part with a number may draw, under the first of its numbers
abbrev pub MayDraw : Share → Type 0
MayDraw v = v.first < v.end

-- one more was added
abbrev pub more : Share → Share
more v = share v.first v.end (v.made + 1) (v.left - 1)

-- how much each new part may add
abbrev pub dealt_room : ℕ
dealt_room = 1099511627776

-- the last number and some room go to a new part
abbrev pub kept : Share → Share
kept v = share v.first (v.end - 1) v.made (v.left - dealt_room)

-- what the new part has
abbrev pub dealt : Share → Share
dealt v = share (v.end - 1) v.end 0 dealt_room

-- two parts with adjacent numbers are one
abbrev pub joined : Share → Share → Share
joined v w = share v.first w.end (v.made + w.made) (v.left + w.left)

-- a share of nothing
abbrev pub nobody : Share
nobody = share 0 0 0 0

-- a number of each share, added up
abbrev pub total : (Share → ℕ) → List Share → ℕ
total f [] = 0
total f (v ∷ vs) = f v + total f vs

-- how much a share has added
abbrev pub made_of : Share → ℕ
made_of v = v.made

-- how much a share may add
abbrev pub left_of : Share → ℕ
left_of v = v.left

-- what the rule says of the share of the pass j: its numbers are its own, and with none it has added nothing and may add nothing
pub record Fits (owner : ℕ → ℕ) (j : ℕ) (v : Share) : Type 0 where
  pub owns : (n : ℕ) → v.first ≤ n → n < v.end → owner n ≡ j
  pub few : v.end ≤ 32
  pub empty : v.end ≤ v.first → (v.made ≡ 0) × (v.left ≡ 0)

-- the total is the start and what all parts added, and all parts may add no more than what is left below the highest total
pub record Balanced (start now : ℕ) (views : List Share) : Type 0 where
  pub owner : ℕ → ℕ
  pub each : (j : ℕ) (v : Share) → get_elem? views j ≡ some v → Fits owner j v
  pub made : now ≡ start + total made_of views
  pub room : now + total left_of views ≡ highest

-- what a part that has the turn knows of the total
abbrev pub HasRoom : Share → ℕ → Type 0
HasRoom v now = (v.made ≤ now) × (now + v.left ≤ highest)

-- what was added and what may be added is at most the highest total
abbrev pub IsSmall : Share → Type 0
IsSmall v = v.made + v.left ≤ highest
