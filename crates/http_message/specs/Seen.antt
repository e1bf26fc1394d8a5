-- What was seen of the values of a name.
use Rattle.std.specs.Prelude.{◌≡◌, ℕ, List, [], ◌∷◌, length}
use Rattle.httparse.specs.Spans.{span_bytes, IsWithin}
use Rattle.http_message.specs.declared.fields.Seen.{Seen}
use Rattle.http_message.specs.declared.fields.Seen.TheVariants.{Absent, One, Several}

-- no value, one, or several with the first of them
abbrev pub IsSeen : List ℕ → List (List ℕ) → Seen → Type 0
IsSeen bytes values Absent = values ≡ []
IsSeen bytes values (One s) = (values ≡ span_bytes bytes s ∷ []) × IsWithin (length bytes) s
IsSeen bytes values (Several s) = (other : List ℕ) × (more : List (List ℕ)) × (values ≡ span_bytes bytes s ∷ other ∷ more) × IsWithin (length bytes) s
