-- What the reader holds.
use Rattle.std.specs.Prelude.{ℕ, Bool, false, ◌||◌, ◌==◌, not, List, [], ◌∷◌}
use Rattle.link_spec.specs.Cut.{Piece}
use Rattle.link_spec.specs.Words.{is_blank}
use Rattle.html_links.specs.declared.entities.Symbol.{Symbol}

-- one more than the number of the last character
abbrev pub past_last : ℕ
past_last = 0x110000

abbrev pub entity_piece : Symbol → Piece ℕ
entity_piece found = record { size = found.size; gives = found.character }

-- the tag goes on; a byte between attributes stands here
abbrev pub goes_on : List ℕ → Bool
goes_on [] = false
goes_on (b ∷ rest) = not (b == 62)

abbrev pub begins_gap : List ℕ → Bool
begins_gap [] = false
begins_gap (b ∷ rest) = is_blank b || b == 47
