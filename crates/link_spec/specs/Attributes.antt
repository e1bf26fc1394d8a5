-- The attributes of a tag (HTML Standard §13.1.2.3), read as far as the tag's `>`.
--     attributes_of text      the attributes that count, in order, where the text is what follows a tag's name
--     attributes_size text      how many bytes they take, with what stands between them
use Rattle.std.specs.Prelude.{ℕ, ◌+◌, Bool, ◌||◌, ◌==◌, not, nat_eq, if◌then◌else◌, List, [], ◌∷◌, ◌++◌, take, drop, map, codes, sum_by, fold, unwrap_or, option_to_list, Option, Some, None}
use Rattle.std.specs.List.{prefix_len, starts_with, list_any}
use Rattle.link_spec.specs.Cut.{Piece, moved, pieces, given}
use Rattle.link_spec.specs.Words.{is_blank, same_word, quoted}
use Rattle.link_spec.specs.Entities.{decoded}
use Rattle.link_spec.specs.declared.page.Attribute.{Attribute}
use Rattle.link_spec.specs.declared.page.Name.{Name}
use Rattle.link_spec.specs.declared.page.Name.TheVariants.{Href, Src, Srcset, Poster, Data, Background, Content, Style, Rel, HttpEquiv}

-- the attribute of this name, if it is one of those that are read
abbrev pub name_of : List ℕ → Option Name
name_of word =
    if same_word word (codes "href") then Some Href
    else if same_word word (codes "src") then Some Src
    else if same_word word (codes "srcset") then Some Srcset
    else if same_word word (codes "poster") then Some Poster
    else if same_word word (codes "data") then Some Data
    else if same_word word (codes "background") then Some Background
    else if same_word word (codes "content") then Some Content
    else if same_word word (codes "style") then Some Style
    else if same_word word (codes "rel") then Some Rel
    else if same_word word (codes "http-equiv") then Some HttpEquiv
    else None

-- their places in the list above
abbrev pub place_of : Name → ℕ
place_of Href = 0
place_of Src = 1
place_of Srcset = 2
place_of Poster = 3
place_of Data = 4
place_of Background = 5
place_of Content = 6
place_of Style = 7
place_of Rel = 8
place_of HttpEquiv = 9

-- the two names are one
abbrev pub same_name : Name → Name → Bool
same_name a b = place_of a == place_of b

-- a name is a run without blanks, `/`, `>` and `=`
abbrev pub is_name_byte : ℕ → Bool
is_name_byte b = not (is_blank b || b == 47 || b == 62 || b == 61)

-- a value without quotes is a run without blanks and `>`
abbrev pub is_bare_byte : ℕ → Bool
is_bare_byte b = not (is_blank b || b == 62)

abbrev pub bare : List ℕ → Piece (List ℕ)
bare text = record { size = prefix_len is_bare_byte text; gives = take (prefix_len is_bare_byte text) text }

-- in quotes, or else without
abbrev pub quoted_or_bare : List ℕ → Piece (List ℕ)
quoted_or_bare text = unwrap_or (quoted text) (bare text)

-- the value behind `=` and blanks
abbrev pub value_behind : List ℕ → Piece (List ℕ)
value_behind text = moved (prefix_len is_blank text) (quoted_or_bare (drop (prefix_len is_blank text) text))

-- the value behind a name, blanks and `=`; without `=` it is empty
abbrev pub value_at : List ℕ → Piece (List ℕ)
value_at text =
    let gap = prefix_len is_blank text in
    let rest = drop gap text in
    if starts_with nat_eq rest (codes "=") then moved (gap + 1) (value_behind (drop 1 rest)) else record { size = 0; gives = [] }

-- an attribute of this name with this text as its value, where it is one of those that are read
abbrev pub named : List ℕ → List ℕ → List Attribute
named word value = map (λ name. record { name = name; value = decoded value }) (option_to_list (name_of word))

-- a name and its value
abbrev pub attribute : List ℕ → Piece (List Attribute)
attribute text =
    let n = prefix_len is_name_byte text in
    let value = value_at (drop n text) in
    record { size = n + value.size; gives = named (take n text) value.gives }

-- blanks and `/` stand between attributes, and `>` ends them. It unfolds only where a proof asks for it.
unfoldable pub attribute_at : List ℕ → Option (Piece (List Attribute))
attribute_at [] = None
attribute_at (b ∷ rest) =
    if b == 62
    then None
    else if is_blank b || b == 47
    then Some (record { size = 1; gives = [] })
    else Some (attribute (b ∷ rest))

-- one more, unless its name is there already: of equal names the first counts
abbrev pub with_one : List Attribute → Attribute → List Attribute
with_one kept a = if list_any (λ b. same_name a.name b.name) kept then kept else kept ++ a ∷ []

abbrev pub attributes_of : List ℕ → List Attribute
attributes_of text = fold with_one [] (given attribute_at text)

abbrev pub attributes_size : List ℕ → ℕ
attributes_size text = sum_by (λ p. p.size) (pieces attribute_at text)
