-- How long a line is: as its fields, and one more for each.
use Rattle.std.proofs.Common.{◌≡◌, ℕ, ◌+◌, List, [], ◌∷◌, ◌++◌, length, arith, length-append}
use Rattle.std.specs.List.{join_with_byte}
use Rattle.journal_spec.specs.Journal.{line, line_feed, space}

-- the bytes of these fields, each with one more for the mark behind it
abbrev pub room : List (List ℕ) → ℕ
room [] = 0
room (field ∷ fields) = length field + 1 + room fields

-- joined texts take the room of each but for one mark
pub length-joined : (mark : ℕ) (text : List ℕ) (texts : List (List ℕ)) → length (join_with_byte mark (text ∷ texts)) + 1 ≡ room (text ∷ texts)
length-joined mark text [] = omega arith
length-joined mark text (next ∷ texts) =
    omega (arith, length-joined mark next texts, length-append text (mark ∷ join_with_byte mark (next ∷ texts)))

-- a line takes the room of its fields
pub length-line : (field : List ℕ) (fields : List (List ℕ)) → length (line (field ∷ fields)) ≡ room (field ∷ fields)
length-line field fields =
    omega (arith, length-joined space field fields, length-append (join_with_byte space (field ∷ fields)) (line_feed ∷ []))

-- the room of fields, and of more
pub room-append : (a b : List (List ℕ)) → room (a ++ b) ≡ room a + room b
room-append [] b = omega arith
room-append (field ∷ fields) b = omega (arith, room-append fields b)
