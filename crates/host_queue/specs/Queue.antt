-- The queue of one host: the items that wait, in the order in which they are taken.
--     Queue      the entries that wait, and the place of the one that was taken
--     IsInOrder entries      each is taken before those behind it
--     IsPut entry old new      new has this entry and those of old, in order
use Rattle.std.specs.Prelude.{ℕ, List, ◌∷◌, Option}
use Rattle.std.specs.Ordering.{nat_cmp, ordering_then}
use Rattle.std.specs.declared.cmp.Ordering.{Ordering}
use Rattle.std.specs.List.Sorted.{IsStrictlySortedBy, IsPermutation}
use Rattle.crawl_kinds.specs.declared.item.Item.{Item}

-- an item that waits, with the ordinal of its add
abbrev pub Entry : Type 0
Entry = Item × ℕ

-- where it stands: its rank, and its ordinal
abbrev pub place : Entry → ℕ × ℕ
place entry = (entry.0.rank, entry.1)

-- the lower rank comes first, and within a rank the lower ordinal
abbrev pub compare : ℕ × ℕ → ℕ × ℕ → Ordering
compare a b = ordering_then (nat_cmp a.0 b.0) (nat_cmp a.1 b.1)

-- each entry comes before those behind it
abbrev pub IsInOrder : List Entry → Type 0
IsInOrder entries = IsStrictlySortedBy (λ a b. compare (place a) (place b)) entries

-- the queue with one entry more: in order, and the same entries beside it
pub record IsPut (entry : Entry) (old new : List Entry) : Type 0 where
  pub ordered : IsInOrder new
  pub same : IsPermutation (entry ∷ old) new

-- the entries that wait, and where the entry last taken stood, until it is put back
pub record Queue : Type 0 where
  pub waiting : List Entry
  pub taken : Option (ℕ × ℕ)
