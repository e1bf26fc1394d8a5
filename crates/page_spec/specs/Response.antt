-- A whole response in the narrow form that is read, in the grammar of RFC 9112.
--     IsHead bytes h rest      bytes are a head, not too large, and a rest
--     IsWholeOf limit block h body      block is the head and a body of as many bytes as it announces
--     BeginsWith limit given block      the bytes given begin with the whole response block
--     NeverWhole limit given      no bytes can follow so that they begin with one
use Rattle.std.specs.Prelude.{◌≡◌, ℕ, ◌≤◌, List, ◌++◌, length, drop, map, Some}
use Rattle.httparse.specs.Grammar.{ResponseHead, print_response, ReadsResponse, status_code}
use Rattle.httparse.specs.Spans.{name_and_value}
use Rattle.page_spec.specs.Fields.{Pair, announced, media_of}

-- a head has at most so many fields
abbrev pub most_fields : ℕ
most_fields = 256

-- and at most so many bytes
abbrev pub most_head : ℕ
most_head = 65536

-- names and values of a head's fields
abbrev pub fields_of : ResponseHead → List Pair
fields_of h = map name_and_value h.fields

-- bytes are the head h and then a rest, and the head is not too large
pub record IsHead (bytes : List ℕ) (h : ResponseHead) (rest : List ℕ) : Type 0 where
  pub reads : ReadsResponse bytes h rest
  pub few : length h.fields ≤ most_fields
  pub short : length (print_response h) ≤ most_head

-- block is the head h and a body of as many bytes as the head announces, together at most limit
pub record IsWholeOf (limit : ℕ) (block : List ℕ) (h : ResponseHead) (body : List ℕ) : Type 0 where
  pub head : IsHead block h body
  pub counted : announced (status_code h) (fields_of h) ≡ Some (length body)
  pub within : length block ≤ limit

-- block is a whole response
abbrev pub IsWhole : ℕ → List ℕ → Type 0
IsWhole limit block = (h : ResponseHead) × (body : List ℕ) × IsWholeOf limit block h body

-- the bytes given begin with the whole response block
abbrev pub BeginsWith : ℕ → List ℕ → List ℕ → Type 0
BeginsWith limit given block = (more : List ℕ) × (given ≡ block ++ more) × IsWhole limit block

-- the bytes given begin with a whole response
abbrev pub BeginsWhole : ℕ → List ℕ → Type 0
BeginsWhole limit given = (block : List ℕ) × BeginsWith limit given block

-- no bytes can follow so that they begin with a whole response
abbrev pub NeverWhole : ℕ → List ℕ → Type 0
NeverWhole limit given = (more : List ℕ) → ¬ (BeginsWhole limit (given ++ more))

-- what a whole response says: its status, its media type, and where its body begins, which is the payload
pub record IsReplyOf (limit : ℕ) (block : List ℕ) (status : ℕ) (media : List ℕ) (head_len : ℕ) : Type 0 where
  pub h : ResponseHead
  pub whole : IsWholeOf limit block h (drop head_len block)
  pub status_is : status ≡ status_code h
  pub media_is : media ≡ media_of (fields_of h)
  pub head_is : head_len ≡ length (print_response h)

-- whatever block they begin with, bytes begin with no other
abbrev pub IsOne : ℕ → Type 0
IsOne limit =
    (given block other : List ℕ) → BeginsWith limit given block → BeginsWith limit given other → block ≡ other
