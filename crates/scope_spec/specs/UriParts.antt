-- The scheme and the path of an address, by the generic syntax of URIs (RFC 3986 section 3).
--     scheme_of uri      what stands before the first `:`
--     path_of uri      what stands behind the authority, up to a query or a fragment
--     segments_of uri      the parts of the path between slashes
use Rattle.std.specs.Prelude.{ℕ, Bool, ◌==◌, ◌||◌, List, drop}
use Rattle.std.specs.List.{slice_split, before_first, after_first, position_or_len}

abbrev pub slash : ℕ
slash = 47

abbrev pub colon : ℕ
colon = 58

abbrev pub question_mark : ℕ
question_mark = 63

abbrev pub number_sign : ℕ
number_sign = 35

-- the scheme ends at the first `:` (section 3.1)
abbrev pub scheme_of : List ℕ → List ℕ
scheme_of uri = before_first (λ b. b == colon) uri

-- a path ends at the first `?` or `#` (section 3.3)
abbrev pub ends_path : ℕ → Bool
ends_path b = b == question_mark || b == number_sign

-- an authority ends at the next `/`, `?` or `#` (section 3.2)
abbrev pub ends_authority : ℕ → Bool
ends_authority b = b == slash || ends_path b

-- what follows the scheme and `://`
abbrev pub behind_marks : List ℕ → List ℕ
behind_marks uri = drop 2 (after_first (λ b. b == colon) uri)

-- what follows the authority
abbrev pub behind_authority : List ℕ → List ℕ
behind_authority text = drop (position_or_len ends_authority text) text

abbrev pub path_of : List ℕ → List ℕ
path_of uri = before_first ends_path (behind_authority (behind_marks uri))

-- the segments of the path: its parts between slashes, empty ones too
abbrev pub segments_of : List ℕ → List (List ℕ)
segments_of uri = slice_split (λ b. b == slash) (path_of uri)
