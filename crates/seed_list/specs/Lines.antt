-- The lines of seeds, and what kind each is.
--     lines text      the lines, each without blanks at its ends
--     is_passed line, is_prefix_line line, is_seed_line line      each line is of one of these kinds
use Rattle.std.specs.Prelude.{ℕ, Bool, true, false, not, ◌||◌, ◌==◌, List, [], ◌∷◌, map}
use Rattle.std.specs.List.{slice_split}
use Rattle.url.specs.Input.{trim_start, trim_end}

abbrev pub line_feed : ℕ
line_feed = 10

abbrev pub number_sign : ℕ
number_sign = 35

abbrev pub plus_sign : ℕ
plus_sign = 43

-- a space, a tab or a CR
abbrev pub is_blank : ℕ → Bool
is_blank b = b == 32 || b == 9 || b == 13

-- without the blanks at both ends
unfoldable pub trimmed : List ℕ → List ℕ
trimmed line = trim_end is_blank (trim_start is_blank line)

-- the lines of a text, which end at LF, each without blanks at its ends
abbrev pub lines : List ℕ → List (List ℕ)
lines text = map trimmed (slice_split (λ b. b == line_feed) text)

-- an empty line is passed over, and so is a comment
abbrev pub is_passed : List ℕ → Bool
is_passed [] = true
is_passed (b ∷ line) = b == number_sign

-- the line gives a prefix and no seed
abbrev pub is_prefix_line : List ℕ → Bool
is_prefix_line [] = false
is_prefix_line (b ∷ line) = b == plus_sign

-- every other line is a seed
abbrev pub is_seed_line : List ℕ → Bool
is_seed_line line = not (is_passed line || is_prefix_line line)
