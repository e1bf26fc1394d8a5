-- Words of the readers of elements and of pages.
use Rattle.std.specs.Prelude.{ℕ, List, Option, Some, None}
use Rattle.std.specs.Borrow.{Bor}
use Rattle.std.specs.List.{filter_map, flat_map, slice_get}
use Rattle.link_spec.specs.declared.reference.Ref.{Ref}
use Rattle.link_spec.specs.Tags.{StartTag}
use Rattle.link_spec.specs.Elements.{tag_base, tag_refs}

-- the text that is lent
abbrev pub text_of : Bor (List ℕ) → List ℕ
text_of text = text.now

-- the first of two, or else the second
abbrev pub or_first : {X : Type 0} → Option X → Option X → Option X
or_first (Some x) o = Some x
or_first None o = o

-- what these tags refer to, and the base that they give
abbrev pub refs_of : List StartTag → List Ref
refs_of tags = flat_map tag_refs tags

abbrev pub base_of : List StartTag → Option (List ℕ)
base_of tags = slice_get (filter_map tag_base tags) 0
