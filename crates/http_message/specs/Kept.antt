-- Heads whose fields are kept.
--     IsKeptAt bytes head h      the head h stands at the front, and this is kept of it
use Rattle.std.specs.Prelude.{◌≡◌, ℕ, List, length, drop, map}
use Rattle.httparse.specs.Grammar.{ResponseHead, print_response, status_code}
use Rattle.page_spec.specs.Fields.{Pair}
use Rattle.page_spec.specs.Response.{fields_of, IsHead}
use Rattle.http_message.specs.declared.head_fields.HeadField.{HeadField}
use Rattle.http_message.specs.declared.head_fields.WholeHead.{WholeHead}

-- a field by its name and its value
abbrev pub pair_of : HeadField → Pair
pair_of field = (field.name, field.value)

abbrev pub pairs_of : List HeadField → List Pair
pairs_of fields = map pair_of fields

-- status, length and fields are those of the head h, behind which the rest stands
pub record IsKept (bytes : List ℕ) (head : WholeHead) (h : ResponseHead) (rest : List ℕ) : Type 0 where
  pub status : head.status ≡ status_code h
  pub len : head.len ≡ length (print_response h)
  pub fields : pairs_of head.fields ≡ fields_of h
  pub rest_is : rest ≡ drop head.len bytes

-- and the head h stands at the front
pub record IsKeptAt (bytes : List ℕ) (head : WholeHead) (h : ResponseHead) : Type 0 where
  pub at : IsHead bytes h (drop head.len bytes)
  pub kept : IsKept bytes head h (drop head.len bytes)
