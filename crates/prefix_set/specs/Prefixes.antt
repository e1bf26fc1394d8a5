-- Prefixes of texts.
--     covers prefixes text      one of the prefixes is a beginning of the text
--     AreApart prefixes         they stand in byte order, and none is a beginning of a later one
use Rattle.std.specs.Prelude.{◌≡◌, ℕ, Bool, true, false, nat_eq, List}
use Rattle.std.specs.Cmp.Lexicographic.{slice_cmp}
use Rattle.std.specs.List.{list_any, starts_with, AllPairs}
use Rattle.std.specs.Ordering.{nat_cmp, is_le}

-- one of the prefixes is a beginning of the text
abbrev pub covers : List (List ℕ) → List ℕ → Bool
covers prefixes text = list_any (λ prefix. starts_with nat_eq text prefix) prefixes

-- they stand in byte order, and none is a beginning of a later one
abbrev pub AreApart : List (List ℕ) → Type 0
AreApart = AllPairs (λ first later. (is_le (slice_cmp nat_cmp first later) ≡ true) × (starts_with nat_eq later first ≡ false))
