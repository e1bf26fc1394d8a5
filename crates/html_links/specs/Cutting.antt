-- What the reader of segments finds, in the words of the definitions.
use Rattle.std.specs.Prelude.{ℕ, List, [], ◌∷◌, Option, Some, None, option_map}
use Rattle.link_spec.specs.Cut.{Piece}
use Rattle.link_spec.specs.Tags.{StartTag}
use Rattle.link_spec.specs.Segments.{segment_at, tag_in}
use Rattle.html_links.specs.declared.segments.Tag.{Tag}

-- the start tag that was read
abbrev pub tag_of : Tag → StartTag
tag_of tag = record { element = tag.element; attributes = tag.attributes; raw = tag.raw.now }

-- the same, with how many bytes it takes
abbrev pub start_of : Tag → Piece StartTag
start_of tag = record { size = tag.size; gives = tag_of tag }

abbrev pub tags_in : Option Tag → List StartTag
tags_in None = []
tags_in (Some tag) = tag_of tag ∷ []

-- how many bytes the segment at the front takes, and its tags
abbrev pub size_at : List ℕ → Option ℕ
size_at text = option_map (λ p. p.size) (segment_at text)

abbrev pub tags_at : List ℕ → Option (List StartTag)
tags_at text = option_map (λ p. tag_in p.gives) (segment_at text)
