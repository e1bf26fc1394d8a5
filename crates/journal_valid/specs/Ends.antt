-- Ends of items in the journal: which fields suit a code.
--     outcome_of code, is_fetched code      the one line on which a code stands, and whether something was fetched
--     IsEnd      an end that a line can name
use Rattle.std.specs.Prelude.{◌≡◌, ℕ, ℤ, pos, negsuc, ◌<◌, ◌≤◌, ◌^◌, Bool, not, false, ◌&&◌, ◌||◌, ◌==◌, nat_le, nat_eq, List, [], ◌∷◌, codes, length, drop, bytes_eq, Option, Some, None, is_some, IfSome, IsTrue, if◌then◌else◌}
use Rattle.std.specs.List.{list_any, list_all, starts_with, before_first, after_first}
use Rattle.std.specs.Ordering.{int_eq}
use Rattle.std.specs.Char.{is_ascii_digit}
use Rattle.crawl_kinds.specs.Text.{is_text, is_visible}
use Rattle.crawl_kinds.specs.declared.event.TheConstants.{MAX_MS}
use Rattle.crawl_kinds.specs.declared.event.Outcome.{Outcome}
use Rattle.crawl_kinds.specs.declared.event.Outcome.TheVariants.{Success, Failure, Disregard, Retry}
use Rattle.crawl_kinds.specs.declared.event.Fetch.{Fetch}
use Rattle.crawl_kinds.specs.declared.event.Body.{Body}
use Rattle.crawl_kinds.specs.declared.event.Notes.{Notes}
use Rattle.crawl_kinds.specs.declared.event.End.{End}

-- an HTTP status
abbrev pub is_status : ℤ → Bool
is_status (pos n) = nat_le n 999
is_status (negsuc n) = false

-- one of these codes
abbrev pub is_among : List ℤ → ℤ → Bool
is_among list code = list_any (int_eq code) list

-- -2 refused, -3 lost, -4 timed out
abbrev pub link_faults : List ℤ
link_faults = negsuc 1 ∷ negsuc 2 ∷ negsuc 3 ∷ []

-- a fault of the link, or -50, the robots file is needed first
abbrev pub retry_codes : List ℤ
retry_codes = negsuc 1 ∷ negsuc 2 ∷ negsuc 3 ∷ negsuc 49 ∷ []

-- -7 the scheme can't be fetched, -8 the last try failed, -61 the robots file could not be fetched, -404 no whole head
abbrev pub failure_codes : List ℤ
failure_codes = negsuc 6 ∷ negsuc 7 ∷ negsuc 60 ∷ negsuc 403 ∷ []

-- -9998: the robots file forbids it
abbrev pub disregard_codes : List ℤ
disregard_codes = negsuc 9997 ∷ []

-- the outcome on whose line alone a code stands
abbrev pub outcome_of : ℤ → Option Outcome
outcome_of code =
    if is_status code then Some Success
    else (if is_among retry_codes code then Some Retry
    else (if is_among failure_codes code then Some Failure
    else (if is_among disregard_codes code then Some Disregard else None)))

-- -7, -50, -61 and -9998 come without a fetch
abbrev pub is_fetched : ℤ → Bool
is_fetched code = not (is_among (negsuc 6 ∷ negsuc 49 ∷ negsuc 60 ∷ negsuc 9997 ∷ []) code)

-- the last try failed
abbrev pub is_last_failure : ℤ → Bool
is_last_failure code = int_eq code (negsuc 7)

-- a start and a duration
pub record IsFetch (fetch : Fetch) : Type 0 where
  pub start : fetch.start ≤ MAX_MS
  pub duration : fetch.duration ≤ MAX_MS

-- a byte of a token (RFC 9110 section 5.6.2), in lower case
abbrev pub is_token_byte : ℕ → Bool
is_token_byte b = (nat_le 97 b && nat_le b 122) || (is_ascii_digit b || list_any (nat_eq b) (codes "!#$%&'*+-.^_`|~"))

abbrev pub is_token : List ℕ → Bool
is_token text = not (length text == 0) && list_all is_token_byte text

abbrev pub slash : ℕ
slash = 47

-- two tokens with `/` between
abbrev pub is_pair : List ℕ → Bool
is_pair text = is_token (before_first (λ b. b == slash) text) && is_token (after_first (λ b. b == slash) text)

-- a pair of tokens, or a word for a type that is not known
abbrev pub is_type : List ℕ → Bool
is_type text = bytes_eq text (codes "unknown") || (bytes_eq text (codes "no-type") || is_pair text)

-- a letter or digit of base32 (RFC 4648 section 6)
abbrev pub is_base32 : ℕ → Bool
is_base32 b = (nat_le 65 b && nat_le b 90) || (nat_le 50 b && nat_le b 55)

-- `sha1:` and 32 letters of base32
abbrev pub is_digest : List ℕ → Bool
is_digest text = starts_with nat_eq text (codes "sha1:") && (length text == 37 && list_all is_base32 (drop 5 text))

-- what a success recorded
pub record IsBody (body : Body) : Type 0 where
  pub size : body.size ≤ 8388608
  pub media : IsTrue (is_text is_visible 100 body.media)
  pub typed : IsTrue (is_type body.media)
  pub digest : IsTrue (is_text is_visible 37 body.digest)
  pub digested : IsTrue (is_digest body.digest)
  pub file : body.spot.file < 2 ^ 32
  pub at : body.spot.at ≤ 4294967295
  pub len : body.spot.len ≤ 4294967295

-- a try number from 1, and a cause that is a fault of the link or none
pub record IsNotes (notes : Notes) : Type 0 where
  pub first : 1 ≤ notes.tries
  pub tries : notes.tries < 2 ^ 32
  pub cause : IsTrue (is_among (pos 0 ∷ link_faults) notes.cause)

-- an end that suits its code
pub record IsEnd (end : End) : Type 0 where
  pub outcome : outcome_of end.code ≡ Some end.outcome
  pub fetched : is_some end.fetch ≡ is_fetched end.code
  pub fetch : IfSome end.fetch IsFetch
  pub recorded : is_some end.body ≡ is_status end.code
  pub body : IfSome end.body IsBody
  pub notes : IsNotes end.notes
  pub caused : int_eq end.notes.cause (pos 0) ≡ not (is_last_failure end.code)
