-- How the body of a response is read for links, by the fields of its head.
--     source_of fields      as a page, as a style sheet, as a script, or not at all
use Rattle.std.specs.Prelude.{ℕ, Bool, ◌||◌, ◌==◌, nat_lt, if◌then◌else◌, List, length, codes, bytes_eq, not}
use Rattle.std.specs.List.{list_all, slice_split}
use Rattle.std.specs.Str.{str_eq_ignore_ascii_case}
use Rattle.httparse.specs.Grammar.{trim_ows}
use Rattle.page_spec.specs.Fields.{Pair, media_of, values_of}
use Rattle.extract_spec.specs.declared.source.Source.{Source}
use Rattle.extract_spec.specs.declared.source.Source.TheVariants.{Page, StyleSheet, Script, Nothing}

-- the text is not empty
abbrev pub has_bytes : List ℕ → Bool
has_bytes text = nat_lt 0 (length text)

-- `,`
abbrev pub is_comma : ℕ → Bool
is_comma b = b == 44

-- a coding that changes nothing is `identity`, in whatever case (RFC 9110 section 8.4.1); empty elements of a list do not
-- count (section 5.6.1)
abbrev pub is_plain_coding : List ℕ → Bool
is_plain_coding coding = not (has_bytes coding) || str_eq_ignore_ascii_case coding (codes "identity")

-- each coding that a value of a Content-Encoding field names changes nothing (RFC 9110 section 8.4)
abbrev pub is_plain : List ℕ → Bool
is_plain value = list_all (λ part. is_plain_coding (trim_ows part)) (slice_split is_comma value)

-- and so of each such field
abbrev pub is_unencoded : List Pair → Bool
is_unencoded fields = list_all is_plain (values_of (codes "content-encoding") fields)

-- how a body of a media type is read
abbrev pub source_in : List ℕ → Source
source_in media =
    if bytes_eq media (codes "text/html") || bytes_eq media (codes "application/xhtml+xml") then Page
    else if bytes_eq media (codes "text/css") then StyleSheet
    else if bytes_eq media (codes "text/javascript") || bytes_eq media (codes "application/javascript") || bytes_eq media (codes "application/x-javascript") then Script
    else Nothing

-- one that is encoded is not read
abbrev pub source_of : List Pair → Source
source_of fields = if is_unencoded fields then source_in (media_of fields) else Nothing
