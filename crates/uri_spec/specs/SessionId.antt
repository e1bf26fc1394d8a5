-- Session ids in paths and queries, and what is left where they are not there.
use Rattle.std.specs.Prelude.{ℕ, Bool, not, ◌&&◌, ◌||◌, ◌==◌, nat_eq, nat_le, List, [], ◌∷◌, ◌++◌, take, drop, length, codes, bytes_eq, filter, flat_map, if◌then◌else◌}
use Rattle.std.specs.List.{slice_split, join_with_byte, list_all, starts_with, before_first, after_first}
use Rattle.std.specs.Char.{is_ascii_digit}

abbrev pub semicolon : ℕ
semicolon = 59

abbrev pub ampersand : ℕ
ampersand = 38

abbrev pub equals_sign : ℕ
equals_sign = 61

-- what stands behind a beginning
abbrev pub behind : List ℕ → List ℕ → List ℕ
behind front text = drop (length front) text

abbrev pub is_small_letter : ℕ → Bool
is_small_letter b = nat_le 97 b && nat_le b 122

abbrev pub is_id_byte : ℕ → Bool
is_id_byte b = is_small_letter b || is_ascii_digit b

-- exactly so many bytes, each of which passes
abbrev pub is_run : (ℕ → Bool) → ℕ → List ℕ → Bool
is_run passes count bytes = length bytes == count && list_all passes bytes

-- what names a session id in a path
abbrev pub id_mark : List ℕ
id_mark = codes "jsessionid="

-- the part of a path after a `;` begins with a session id: that mark, and 32 letters and digits
abbrev pub has_id : List ℕ → Bool
has_id part = starts_with nat_eq part id_mark && is_run is_id_byte 32 (take 32 (behind id_mark part))

-- such a part without them and without its `;`, and any other part behind its `;`
abbrev pub part_text : List ℕ → List ℕ
part_text part = if has_id part then drop 32 (behind id_mark part) else semicolon ∷ part

-- the first part, and what is left of each other
abbrev pub parts_text : List (List ℕ) → List ℕ
parts_text [] = []
parts_text (first ∷ others) = first ++ flat_map part_text others

-- no `;jsessionid=` with 32 letters and digits is there
abbrev pub path_without_ids : List ℕ → List ℕ
path_without_ids path = parts_text (slice_split (λ b. b == semicolon) path)

-- a name that holds a session id of 32 letters and digits
abbrev pub is_id_name : List ℕ → Bool
is_id_name name = bytes_eq name (codes "jsessionid") || bytes_eq name (codes "phpsessid") || bytes_eq name (codes "sid")

-- `aspsessionid` and 8 letters
abbrev pub is_asp_name : List ℕ → Bool
is_asp_name name =
    starts_with nat_eq name (codes "aspsessionid") && is_run is_small_letter 8 (behind (codes "aspsessionid") name)

-- a member of a query that is a session id: its name, `=` and exactly so many letters
abbrev pub is_id_member : List ℕ → Bool
is_id_member member =
    let name = before_first (λ b. b == equals_sign) member in
    let value = after_first (λ b. b == equals_sign) member in
    (is_id_name name && is_run is_id_byte 32 value) || (is_asp_name name && is_run is_small_letter 24 value)

-- no member between `&` is a session id
abbrev pub query_without_ids : List ℕ → List ℕ
query_without_ids query =
    join_with_byte ampersand (filter (λ member. not (is_id_member member)) (slice_split (λ b. b == ampersand) query))
