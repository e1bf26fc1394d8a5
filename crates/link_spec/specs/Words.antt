-- Bytes and words of all three kinds of text.
use Rattle.std.specs.Prelude.{ℕ, ◌+◌, Bool, ◌||◌, ◌==◌, if◌then◌else◌, List, [], ◌∷◌, length, take, map, bytes_eq, Option, Some, None}
use Rattle.std.specs.List.{position_or_len, before_first}
use Rattle.std.specs.Char.{to_ascii_lowercase}
use Rattle.link_spec.specs.Cut.{Piece, moved}
use Rattle.link_spec.specs.declared.reference.Ref.{Ref}

-- space, tab, LF, FF and CR (ASCII whitespace of the Infra Standard, section 4.6)
abbrev pub is_blank : ℕ → Bool
is_blank b = b == 32 || b == 9 || b == 10 || b == 12 || b == 13

-- `"` and `'`
abbrev pub is_quote : ℕ → Bool
is_quote b = b == 34 || b == 39

-- the two words are one, in whatever case
abbrev pub same_word : List ℕ → List ℕ → Bool
same_word a b = bytes_eq (map to_ascii_lowercase a) (map to_ascii_lowercase b)

-- the text begins with the word, in whatever case
abbrev pub begins : List ℕ → List ℕ → Bool
begins word text = same_word (take (length word) text) word

-- up to and with the first byte that passes, or to the end. It gives what stands before that byte
abbrev pub closed_by : (ℕ → Bool) → List ℕ → Piece (List ℕ)
closed_by p text = record { size = position_or_len p text + 1; gives = before_first p text }

-- a text in quotes: up to and with the same quote, or to the end
abbrev pub quoted : List ℕ → Option (Piece (List ℕ))
quoted [] = None
quoted (q ∷ rest) = if is_quote q then Some (moved 1 (closed_by (λ b. b == q) rest)) else None

-- a reference: its letter, and its text as it stands
abbrev pub reference : ℕ → List ℕ → Ref
reference letter text = record { letter = letter; text = text }
