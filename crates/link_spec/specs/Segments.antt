-- The segments of a page (after HTML Standard §13.1): comments, declarations, tags, raw texts and text. A start tag takes the
-- raw text behind it along.
--     segment_at text      the segment at the front, where the text is not empty
--     start_tags text      the start tags of a page, in order
use Rattle.std.specs.Prelude.{ℕ, ◌+◌, Bool, false, ◌&&◌, ◌||◌, ◌==◌, nat_eq, if◌then◌else◌, List, [], ◌∷◌, drop, codes, Option, Some}
use Rattle.std.specs.List.{starts_with, flat_map, position_or_len}
use Rattle.std.specs.Char.{is_ascii_alphabetic}
use Rattle.link_spec.specs.Cut.{Piece, before_where, pieces}
use Rattle.link_spec.specs.Tags.{StartTag, start_tag_at, tag_size}

pub data Segment : Type 0 where
  comment : Segment
  declaration : Segment
  end_tag : Segment
  start_tag : StartTag → Segment
  plain_text : Segment

-- a letter stands at the front
abbrev pub begins_with_letter : List ℕ → Bool
begins_with_letter [] = false
begins_with_letter (b ∷ rest) = is_ascii_alphabetic b

-- `<` and a letter; `</` and a letter; `<!` or `<?`
abbrev pub is_start_tag : List ℕ → Bool
is_start_tag text = starts_with nat_eq text (codes "<") && begins_with_letter (drop 1 text)

abbrev pub is_end_tag : List ℕ → Bool
is_end_tag text = starts_with nat_eq text (codes "</") && begins_with_letter (drop 2 text)

abbrev pub is_declaration : List ℕ → Bool
is_declaration text = starts_with nat_eq text (codes "<!") || starts_with nat_eq text (codes "<?")

-- a segment that is no text begins here
abbrev pub begins_segment : List ℕ → Bool
begins_segment text = is_declaration text || is_start_tag text || is_end_tag text

-- `-->`
abbrev pub ends_comment : List ℕ → Bool
ends_comment text = starts_with nat_eq text (codes "-->")

-- up to and with `-->`, or the end
abbrev pub comment_size : List ℕ → ℕ
comment_size text = 4 + before_where ends_comment (drop 4 text) + 3

-- up to and with `>`, or the end
abbrev pub declaration_size : List ℕ → ℕ
declaration_size text = 2 + position_or_len (λ b. b == 62) (drop 2 text) + 1

-- a segment of this size
abbrev pub sized : ℕ → Segment → Option (Piece Segment)
sized size segment = Some (record { size = size; gives = segment })

-- The segment at the front. It unfolds only where a proof asks for it.
unfoldable pub segment_at : List ℕ → Option (Piece Segment)
segment_at text =
    if starts_with nat_eq text (codes "<!--")
    then sized (comment_size text) comment
    else if is_declaration text
    then sized (declaration_size text) declaration
    else if is_start_tag text
    then sized (start_tag_at text).size (start_tag (start_tag_at text).gives)
    else if is_end_tag text
    then sized (2 + tag_size (drop 2 text)) end_tag
    else sized (before_where begins_segment text) plain_text

-- the tag of a segment
abbrev pub tag_in : Segment → List StartTag
tag_in comment = []
tag_in declaration = []
tag_in end_tag = []
tag_in (start_tag tag) = tag ∷ []
tag_in plain_text = []

abbrev pub start_tags : List ℕ → List StartTag
start_tags text = flat_map (λ p. tag_in p.gives) (pieces segment_at text)
