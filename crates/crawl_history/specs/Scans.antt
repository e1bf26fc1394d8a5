-- Scans of a list, most of them from its end.
--     last_of f xs      what the last element that gives something gives
--     after_last p xs      the elements after the last one that passes, all where none does
--     through p xs      the elements up to and with the first one that passes
--     first_of xs      the first element
--     distinct e xs      each element that is like none before it
--     least_of before xs      the least element, the first of equal ones
use Rattle.std.specs.Prelude.{Bool, List, [], ◌∷◌, Option, Some, None, option_map, unwrap_or, if◌then◌else◌}
use Rattle.std.specs.List.{list_any}
use Rattle.std.specs.Option.{option_or}

-- what the last element that gives something gives
abbrev pub last_of : {X Y : Type 0} → (X → Option Y) → List X → Option Y
last_of f [] = None
last_of f (x ∷ xs) = option_or (last_of f xs) (f x)

-- the elements after the last one that passes
abbrev pub behind_last : {X : Type 0} → (X → Bool) → List X → Option (List X)
behind_last p [] = None
behind_last p (x ∷ xs) = option_or (behind_last p xs) (if p x then Some xs else None)

-- the same, and all of them where none passes
abbrev pub after_last : {X : Type 0} → (X → Bool) → List X → List X
after_last p xs = unwrap_or (behind_last p xs) xs

-- the elements up to and with the first one that passes
abbrev pub through : {X : Type 0} → (X → Bool) → List X → Option (List X)
through p [] = None
through p (x ∷ xs) = if p x then Some (x ∷ []) else option_map (λ ys. x ∷ ys) (through p xs)

-- the first element
abbrev pub first_of : {X : Type 0} → List X → Option X
first_of [] = None
first_of (x ∷ xs) = Some x

-- each element that is like none of those seen and like none before it
abbrev pub distinct_from : {X : Type 0} → (X → X → Bool) → List X → List X → List X
distinct_from e seen [] = []
distinct_from e seen (x ∷ xs) =
    if list_any (e x) seen
    then distinct_from e seen xs
    else x ∷ distinct_from e (x ∷ seen) xs

-- each element that is like none before it
abbrev pub distinct : {X : Type 0} → (X → X → Bool) → List X → List X
distinct e xs = distinct_from e [] xs

-- the lesser of two, the first where they are equal
abbrev pub lesser : {X : Type 0} → (X → X → Bool) → X → Option X → X
lesser before x None = x
lesser before x (Some y) = if before y x then y else x

-- the least element, the first of equal ones
abbrev pub least_of : {X : Type 0} → (X → X → Bool) → List X → Option X
least_of before [] = None
least_of before (x ∷ xs) = Some (lesser before x (least_of before xs))
