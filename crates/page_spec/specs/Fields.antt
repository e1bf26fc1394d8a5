-- What the fields of a response's head say, each of them a name and a value.
--     values_of name fields      the values of the fields of a name
--     announced status fields      how many bytes of body are announced, where the response is of the form that is read
--     media_of fields      the media type
use Rattle.std.specs.Prelude.{ℕ, Bool, true, false, not, ◌&&◌, ◌||◌, ◌==◌, nat_le, List, [], ◌∷◌, length, codes, filter, map, Option, Some, None, if◌then◌else◌}
use Rattle.std.specs.Char.{is_ascii_digit}
use Rattle.std.specs.List.{list_all, before_first, after_first}
use Rattle.std.specs.Str.{str_eq_ignore_ascii_case}
use Rattle.std.specs.Str.Parse.{digits_value}
use Rattle.httparse.specs.Grammar.{is_token, trim_ows}
use Rattle.url.specs.Ascii.{slash}
use Rattle.url.specs.Input.{lowercase}
use Rattle.uri_spec.specs.SessionId.{semicolon}

-- a field's name and its value
abbrev pub Pair : Type 0
Pair = List ℕ × List ℕ

-- the field has this name, capitals or not (RFC 9110 section 5.1)
abbrev pub is_named : List ℕ → Pair → Bool
is_named name field = str_eq_ignore_ascii_case field.0 name

-- the values of the fields of this name, in their order
abbrev pub values_of : List ℕ → List Pair → List (List ℕ)
values_of name fields = map (λ field. field.1) (filter (is_named name) fields)

-- 1 to 18 decimal digits
abbrev pub is_count : List ℕ → Bool
is_count text = nat_le 1 (length text) && (nat_le (length text) 18 && list_all is_ascii_digit text)

-- the number that one value writes (RFC 9112 section 6.3, rule 5), and nothing for no value or several
abbrev pub one_count : List (List ℕ) → Option ℕ
one_count [] = None
one_count (text ∷ []) = if is_count text then Some (digits_value 10 text) else None
one_count (text ∷ other ∷ more) = None

-- the status of a response with a body that is read: 200 to 599, but neither 204 nor 304, which have none (RFC 9110
-- section 6.4.1)
abbrev pub is_page : ℕ → Bool
is_page status = nat_le 200 status && (nat_le status 599 && not (status == 204 || status == 304))

-- no value stands there
abbrev pub is_absent : List (List ℕ) → Bool
is_absent [] = true
is_absent (text ∷ more) = false

-- how many bytes of body follow a head of the form that is read: the status of a page, no Transfer-Encoding, and one
-- Content-Length
abbrev pub announced : ℕ → List Pair → Option ℕ
announced status fields =
    if is_page status && is_absent (values_of (codes "transfer-encoding") fields)
    then one_count (values_of (codes "content-length") fields)
    else None

-- two tokens with `/` between (RFC 9110 section 8.3.1), of at most 100 bytes
abbrev pub is_media : List ℕ → Bool
is_media text =
    is_token (before_first (λ b. b == slash) text) && (is_token (after_first (λ b. b == slash) text) && nat_le (length text) 100)

-- what stands before the first `;`, without blanks around it, in lower case
abbrev pub media_part : List ℕ → List ℕ
media_part value = lowercase (trim_ows (before_first (λ b. b == semicolon) value))

-- the media type that the first value names
abbrev pub media_in : List (List ℕ) → List ℕ
media_in [] = codes "no-type"
media_in (value ∷ more) = if is_media (media_part value) then media_part value else codes "unknown"

-- the media type of a response
abbrev pub media_of : List Pair → List ℕ
media_of fields = media_in (values_of (codes "content-type") fields)
