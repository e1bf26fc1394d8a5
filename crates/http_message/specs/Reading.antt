-- What is read at the front of bytes.
--     IsHeadAt bytes head h      the head h stands there, and this is said of it
--     NoHead bytes, NeverHead bytes      no head stands there, or none ever will
--     Expects limit bytes total      the whole response at the front has so many bytes
use Rattle.std.specs.Prelude.{◌≡◌, ℕ, ◌<◌, ◌≤◌, List, ◌++◌, length, take, drop}
use Rattle.httparse.specs.Grammar.{ResponseHead, print_response, status_code}
use Rattle.page_spec.specs.Fields.{announced}
use Rattle.page_spec.specs.Response.{fields_of, BeginsWith, BeginsWhole, IsHead}
use Rattle.http_message.specs.declared.head.Head.{Head}

-- the head h stands at the front, and its status, its length and the length of body that it announces are these
pub record IsHeadAt (bytes : List ℕ) (head : Head) (h : ResponseHead) : Type 0 where
  pub at : IsHead bytes h (drop head.len bytes)
  pub status : head.status ≡ status_code h
  pub len : head.len ≡ length (print_response h)
  pub body : head.body ≡ announced (status_code h) (fields_of h)

-- no head stands at the front
abbrev pub NoHead : List ℕ → Type 0
NoHead bytes = (h : ResponseHead) (rest : List ℕ) → ¬ (IsHead bytes h rest)

-- no bytes can follow that make one stand there
abbrev pub NeverHead : List ℕ → Type 0
NeverHead bytes = (more : List ℕ) → NoHead (bytes ++ more)

-- whatever follows, as soon as so many bytes are there they are the whole response with which the bytes begin, and not
-- before
pub record Expects (limit : ℕ) (bytes : List ℕ) (total : ℕ) : Type 0 where
  pub whole : (more : List ℕ) → total ≤ length (bytes ++ more) → BeginsWith limit (bytes ++ more) (take total (bytes ++ more))
  pub short : (more : List ℕ) → length (bytes ++ more) < total → ¬ (BeginsWhole limit (bytes ++ more))
  pub within : total ≤ limit
