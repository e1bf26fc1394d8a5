-- What the reader finds, as a piece.
use Rattle.std.specs.Prelude.{ℕ, List}
use Rattle.link_spec.specs.Cut.{Piece}
use Rattle.link_spec.specs.declared.scan.Found.{Found}

-- how many bytes it takes, and its text
abbrev pub piece_of : Found → Piece (List ℕ)
piece_of found = record { size = found.size; gives = found.text.now }
