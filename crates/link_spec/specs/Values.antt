-- What values of attributes say: words of `rel`, lists of images, and where a page is left for.
use Rattle.std.specs.Prelude.{ℕ, ◌+◌, Bool, ◌||◌, ◌==◌, nat_lt, if◌then◌else◌, List, [], ◌∷◌, length, take, drop, codes, Option, Some}
use Rattle.std.specs.List.{prefix_len, list_any, slice_split, position_or_len}
use Rattle.std.specs.Option.{option_map_or}
use Rattle.link_spec.specs.Cut.{Piece, before_where, given}
use Rattle.link_spec.specs.Words.{is_blank, same_word, begins, quoted}

-- the letters: a page to go to, what is embedded; a part that is read as a style sheet, or as a script
abbrev pub hyperlink : ℕ
hyperlink = 76

abbrev pub embedded : ℕ
embedded = 69

abbrev pub style_part : ℕ
style_part = 67

abbrev pub script_part : ℕ
script_part = 83

-- words of `rel` that name what is embedded (HTML Standard §4.6.7)
abbrev pub is_embedding_word : List ℕ → Bool
is_embedding_word word = same_word word (codes "stylesheet") || same_word word (codes "icon") || same_word word (codes "preload") || same_word word (codes "manifest")

abbrev pub rel_letter : List ℕ → ℕ
rel_letter rel = if list_any is_embedding_word (slice_split is_blank rel) then embedded else hyperlink

-- `,`
abbrev pub is_comma : ℕ → Bool
is_comma b = b == 44

-- the first word of a text, if it has one
abbrev pub first_word : List ℕ → List (List ℕ)
first_word text =
    let rest = drop (prefix_len is_blank text) text in
    let n = position_or_len is_blank rest in
    if nat_lt 0 n then take n rest ∷ [] else []

-- of each part between commas its first word
abbrev pub candidate_at : List ℕ → Option (Piece (List (List ℕ)))
candidate_at text = Some (record { size = position_or_len is_comma text + 1; gives = first_word (take (position_or_len is_comma text) text) })

abbrev pub candidates : List ℕ → List (List ℕ)
candidates value = given candidate_at value

-- what follows the first `url=`, without blanks before it and without quotes round it
abbrev pub refresh_target : List ℕ → List (List ℕ)
refresh_target value =
    let at = before_where (begins (codes "url=")) value in
    let rest = drop (at + 4) value in
    let target = drop (prefix_len is_blank rest) rest in
    if nat_lt at (length value) then option_map_or (λ p. p.gives) (quoted target) target ∷ [] else []
