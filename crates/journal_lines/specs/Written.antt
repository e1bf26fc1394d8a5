-- Fields and notes in the order in which they are written, with a mark before each.
--     marked mark texts      a mark before each text
--     spaced fields      a space before each field
use Rattle.std.specs.Prelude.{ℕ, List, ◌∷◌, flat_map}
use Rattle.journal_spec.specs.Journal.{space}

-- a mark before each text
abbrev pub marked : ℕ → List (List ℕ) → List ℕ
marked mark texts = flat_map (λ text. mark ∷ text) texts

-- a space before each field
abbrev pub spaced : List (List ℕ) → List ℕ
spaced fields = marked space fields
