-- Parts of an end.
use Rattle.std.specs.Prelude.{◌≡◌, ℕ, ℤ, ◌≤◌, ◌<◌, ◌^◌, List, [], ◌∷◌, ◌++◌, codes, Option, Some, IsTrue}
use Rattle.std.specs.Fmt.{decimal, signed_decimal}
use Rattle.crawl_kinds.specs.declared.event.Cut.{Cut}
use Rattle.crawl_kinds.specs.declared.event.Cut.TheVariants.{Length, Disconnect}
use Rattle.crawl_kinds.specs.declared.event.Spot.{Spot}
use Rattle.crawl_kinds.specs.declared.event.Fetch.{Fetch}
use Rattle.crawl_kinds.specs.declared.event.Body.{Body}
use Rattle.crawl_kinds.specs.declared.event.Notes.{Notes}
use Rattle.crawl_kinds.specs.declared.event.End.{End}
use Rattle.journal_spec.specs.Fields.{body_fields}
use Rattle.journal_valid.specs.Ends.{is_among, link_faults, IsBody, IsEnd}

-- a place that a line can name
pub record IsSpot (spot : Spot) : Type 0 where
  pub file : spot.file ≤ 4294967295
  pub at : spot.at ≤ 4294967295
  pub len : spot.len ≤ 4294967295

-- the note on a cut
abbrev pub cut_note : Cut → List ℕ
cut_note Length = codes "trunc:length"
cut_note Disconnect = codes "trunc:disconnect"

-- the note on a try number
abbrev pub tries_note : ℕ → List ℕ
tries_note tries = codes "tries:" ++ decimal tries

-- a try number that is noted
abbrev pub IsNoted : ℕ → Type 0
IsNoted tries = (2 ≤ tries) × (tries < 2 ^ 32)

-- the note on a cause
abbrev pub cause_note : ℤ → List ℕ
cause_note cause = codes "cause:" ++ signed_decimal cause

-- a cause that is noted
abbrev pub IsCause : ℤ → Type 0
IsCause cause = IsTrue (is_among link_faults cause)

-- what was recorded, with these fields
pub record IsBodyOf (size media digest spot : List ℕ) (body : Body) : Type 0 where
  pub valid : IsBody body
  pub fields : body_fields (Some body) ≡ size ∷ media ∷ digest ∷ spot ∷ []

-- an end, of these
pub record IsEndOf (code : ℤ) (fetch : Option Fetch) (body : Option Body) (notes : Notes) (end : End) : Type 0 where
  pub valid : IsEnd end
  pub of_code : end.code ≡ code
  pub of_fetch : end.fetch ≡ fetch
  pub of_body : end.body ≡ body
  pub of_notes : end.notes ≡ notes
