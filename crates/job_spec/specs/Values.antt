-- What is read of TOML tables and values.
--     keys table      the names of a table
--     least names      the first of them in byte order
--     as_natural value      the number that a value is
use Rattle.std.specs.Prelude.{ℕ, ℤ, pos, Bool, false, not, List, [], ◌∷◌, filter, bytes_eq, Option, Some, None, option_map, option_and_then, if◌then◌else◌}
use Rattle.std.specs.List.{list_any, reduce}
use Rattle.std.specs.Ordering.{nat_cmp, is_gt}
use Rattle.std.specs.Cmp.Lexicographic.{slice_cmp}
use Rattle.toml.specs.Data.{Data, Items, no_items, item, Members, no_members, member, as_integer}

-- the names of a table
abbrev pub keys : Members → List (List ℕ)
keys no_members = []
keys (member key value rest) = key ∷ keys rest

-- the values of an array
abbrev pub values_of : Items → List Data
values_of no_items = []
values_of (item value rest) = value ∷ values_of rest

-- of two names the one that stands first in byte order
abbrev pub earlier : List ℕ → List ℕ → List ℕ
earlier a b = if is_gt (slice_cmp nat_cmp a b) then b else a

-- the first of all in byte order
abbrev pub least : List (List ℕ) → Option (List ℕ)
least names = reduce earlier names

-- a name is one of these
abbrev pub is_one_of : List (List ℕ) → List ℕ → Bool
is_one_of known name = list_any (bytes_eq name) known

-- the least name of a table that is none of these
unfoldable pub least_other : List (List ℕ) → Members → Option (List ℕ)
least_other known table = least (filter (λ name. not (is_one_of known name)) (keys table))

-- an integer that is not negative
abbrev pub natural : ℤ → Option ℕ
natural (pos n) = Some n
natural negative = None

-- the number that a value is
abbrev pub as_natural : Data → Option ℕ
as_natural value = option_and_then natural (as_integer value)

-- there is a value, and the test holds of it
abbrev pub holds : {X : Type 0} → (X → Bool) → Option X → Bool
holds test None = false
holds test (Some x) = test x

-- the value, where the test holds of it
abbrev pub passing : {X : Type 0} → (X → Bool) → Option X → Option X
passing test value = option_and_then (λ x. if test x then Some x else None) value

-- the values, where each is there
abbrev pub all_given : {X : Type 0} → List (Option X) → Option (List X)
all_given [] = Some []
all_given (first ∷ rest) = option_and_then (λ x. option_map (λ xs. x ∷ xs) (all_given rest)) first

-- the first that is there
abbrev pub first_given : {X : Type 0} → List (Option X) → Option X
first_given [] = None
first_given (Some x ∷ rest) = Some x
first_given (None ∷ rest) = first_given rest
