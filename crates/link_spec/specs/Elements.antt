-- What the start tags of a page refer to.
--     html_refs text      the references of a page, in order
--     html_base text      the value of its first `base`
use Rattle.std.specs.Prelude.{ℕ, Bool, ◌||◌, if◌then◌else◌, List, [], ◌∷◌, ◌++◌, map, codes, find, option_map, Option, None}
use Rattle.std.specs.List.{filter_map, flat_map, slice_get}
use Rattle.std.specs.Option.{option_map_or}
use Rattle.link_spec.specs.Words.{same_word, reference}
use Rattle.link_spec.specs.Values.{candidates, embedded, hyperlink, refresh_target, rel_letter, script_part, style_part}
use Rattle.link_spec.specs.Attributes.{same_name}
use Rattle.link_spec.specs.Tags.{StartTag, same_element}
use Rattle.link_spec.specs.Segments.{start_tags}
use Rattle.link_spec.specs.declared.reference.Ref.{Ref}
use Rattle.link_spec.specs.declared.page.Attribute.{Attribute}
use Rattle.link_spec.specs.declared.page.Name.{Name}
use Rattle.link_spec.specs.declared.page.Name.TheVariants.{Href, Src, Srcset, Poster, Data, Background, Content, Style as Styling, Rel, HttpEquiv}
use Rattle.link_spec.specs.declared.page.Element.{Element}
use Rattle.link_spec.specs.declared.page.Element.TheVariants.{Anchor, Link, Image, Video, Embedding, Script, Style, Object, Body, Meta, Base}
use Rattle.link_spec.specs.declared.page.Role.{Role}
use Rattle.link_spec.specs.declared.page.Role.TheVariants.{Nothing, Hyperlink, Embedded, ByRel, Candidates, Refresh, StyleSheet}

-- an element with `src`
abbrev pub has_source : Element → Bool
has_source e = same_element e Image || same_element e Video || same_element e Embedding || same_element e Script

-- the role of an attribute where the test holds
abbrev pub role_if : Bool → Role → Role
role_if test role = if test then role else Nothing

-- how an attribute of an element refers
abbrev pub role_of : Element → Name → Role
role_of e Href = if same_element e Anchor then Hyperlink else role_if (same_element e Link) ByRel
role_of e Src = role_if (has_source e) Embedded
role_of e Srcset = role_if (same_element e Image) Candidates
role_of e Poster = role_if (same_element e Video) Embedded
role_of e Data = role_if (same_element e Object) Embedded
role_of e Background = role_if (same_element e Body) Embedded
role_of e Content = role_if (same_element e Meta) Refresh
role_of e Styling = StyleSheet
role_of e Rel = Nothing
role_of e HttpEquiv = Nothing

-- the value of the attribute of this name, or nothing
abbrev pub value_of : Name → List Attribute → List ℕ
value_of name attributes = option_map_or (λ a. a.value) (find (λ a. same_name name a.name) attributes) []

-- the references of an attribute, by its role
abbrev pub refs_by : Role → List Attribute → List ℕ → List Ref
refs_by Nothing attributes value = []
refs_by Hyperlink attributes value = reference hyperlink value ∷ []
refs_by Embedded attributes value = reference embedded value ∷ []
refs_by ByRel attributes value = reference (rel_letter (value_of Rel attributes)) value ∷ []
refs_by Candidates attributes value = map (reference embedded) (candidates value)
refs_by Refresh attributes value = if same_word (value_of HttpEquiv attributes) (codes "refresh") then map (reference hyperlink) (refresh_target value) else []
refs_by StyleSheet attributes value = reference style_part value ∷ []

-- raw text as a part of its own
abbrev pub raw_refs : Element → List ℕ → List Ref
raw_refs e raw =
    if same_element e Script then reference script_part raw ∷ []
    else if same_element e Style then reference style_part raw ∷ []
    else []

-- the references of these attributes, in order, of a tag that has them all
abbrev pub attribute_refs : Element → List Attribute → List Attribute → List Ref
attribute_refs element all attributes = flat_map (λ a. refs_by (role_of element a.name) all a.value) attributes

-- in the order of its attributes, and then its raw text
abbrev pub tag_refs : StartTag → List Ref
tag_refs tag = attribute_refs tag.element tag.attributes tag.attributes ++ raw_refs tag.element tag.raw

abbrev pub html_refs : List ℕ → List Ref
html_refs text = flat_map tag_refs (start_tags text)

-- the value of `href`, if it is there
abbrev pub href_in : List Attribute → Option (List ℕ)
href_in attributes = option_map (λ a. a.value) (find (λ a. same_name Href a.name) attributes)

-- the base that a tag gives (HTML Standard §4.2.3)
abbrev pub tag_base : StartTag → Option (List ℕ)
tag_base tag = if same_element tag.element Base then href_in tag.attributes else None

-- that of the first `base` with `href`
abbrev pub html_base : List ℕ → Option (List ℕ)
html_base text = slice_get (filter_map tag_base (start_tags text)) 0
