-- What a reader of fields answers.
--     Finds is option, Reads is result      the one value that is meant, or none where there is none
--     cells mark text, left parts      the cells between marks, and those that are not read yet
--     Takes fields is result old new      the value whose fields stand in front, and what is left behind them
use Rattle.std.specs.Prelude.{◌≡◌, ◌≢◌, ℕ, ◌==◌, true, List, [], ◌∷◌, ◌++◌, Option, Some, None, Result, Ok, Err, if◌then◌else◌}
use Rattle.std.specs.List.{slice_split, list_all}
use Rattle.crawl_kinds.specs.Text.{is_visible}
use Rattle.journal_read.specs.declared.fault.Misread.{Misread}
use Rattle.journal_read.specs.declared.fault.Misread.TheVariants.{Bad, NoMemory}
use Rattle.journal_read.specs.declared.parts.Parts.{Parts}

-- a value that is meant, or nothing where there is none
abbrev pub Finds : {X : Type 0} → (X → Type 0) → Option X → Type 0
Finds {X} is None = (x : X) → is x → ⊥
Finds is (Some x) = is x

-- the same, where memory may be refused
abbrev pub Reads : {X : Type 0} → (X → Type 0) → Result X Misread → Type 0
Reads is (Ok x) = is x
Reads {X} is (Err Bad) = (x : X) → is x → ⊥
Reads is (Err NoMemory) = Unit {0}

-- a value whose fields stand in front of the old list, the new one behind them; or Bad where no value's fields do
abbrev pub Takes : {X : Type 0} → (X → List (List ℕ)) → (X → Type 0) → List (List ℕ) → List (List ℕ) → Result X Misread → Type 0
Takes fields is old new (Ok x) = is x × (old ≡ fields x ++ new)
Takes {X} fields is old new (Err Bad) = (x : X) (rest : List (List ℕ)) → is x → old ≢ fields x ++ rest
Takes fields is old new (Err NoMemory) = Unit {0}

-- the parts of a text between marks
abbrev pub cells : ℕ → List ℕ → List (List ℕ)
cells mark text = slice_split (λ b. b == mark) text

-- the parts that are not read yet
abbrev pub left : Parts → List (List ℕ)
left parts = if parts.more then cells parts.mark parts.rest.now else []

-- each byte is visible
abbrev pub AreVisible : List ℕ → Type 0
AreVisible text = list_all is_visible text ≡ true

-- a value whose part stands in front of the old list, the new one behind it; or no value's does, and all is left
abbrev pub MayTake : {X : Type 0} → (X → List ℕ) → (X → Type 0) → List (List ℕ) → List (List ℕ) → Option X → Type 0
MayTake part is old new (Some x) = is x × (old ≡ part x ∷ new)
MayTake {X} part is old new None = (new ≡ old) × ((x : X) (rest : List (List ℕ)) → is x → old ≢ part x ∷ rest)
