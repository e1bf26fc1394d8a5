-- References have the letters of links, once those of parts stand in the parts' places.
use Rattle.std.proofs.Common.{ℕ, Bool, true, false, List, [], ◌∷◌, ◌++◌, map, refl, All, Option, Some, None, IsTrue}
use Rattle.std.specs.Prelude.{IfSome, option_map, if◌then◌else◌}
use Rattle.std.specs.List.{cons_option, filter_map, flat_map, list_any, slice_split}
use Rattle.std.proofs.lemmas.List.Elements.{All-nil, All-cons, All-head, All-tail, All-append, All-take}
use Rattle.page_spec.specs.Fields.{Pair}
use Rattle.link_spec.specs.Cut.{sought}
use Rattle.link_spec.specs.Words.{is_blank, reference}
use Rattle.link_spec.specs.Values.{candidates, is_embedding_word, refresh_target, rel_letter}
use Rattle.link_spec.specs.Css.{css_refs, css_use}
use Rattle.link_spec.specs.Scripts.{string_refs, string_use}
use Rattle.link_spec.specs.Tags.{StartTag, same_element}
use Rattle.link_spec.specs.Segments.{start_tags}
use Rattle.link_spec.specs.Elements.{attribute_refs, html_refs, raw_refs, refs_by, role_of, tag_refs, value_of}
use Rattle.link_spec.specs.declared.reference.Ref.{Ref}
use Rattle.link_spec.specs.declared.page.Attribute.{Attribute}
use Rattle.link_spec.specs.declared.page.Element.TheVariants.{Script, Style}
use Rattle.link_spec.specs.declared.page.Name.TheVariants.{Rel}
use Rattle.link_spec.specs.declared.page.Role.{Role}
use Rattle.link_spec.specs.declared.page.Role.TheVariants.{Nothing, Hyperlink, Embedded, ByRel, Candidates, Refresh, StyleSheet}
use Rattle.extract_spec.specs.declared.found.Found.{Found}
use Rattle.extract_spec.specs.declared.source.Source.{Source}
use Rattle.extract_spec.specs.declared.source.Source.TheVariants as source
use Rattle.extract_spec.specs.Joining.{cleaned, found_by, is_link_letter, joined, linked}
use Rattle.extract_spec.specs.Source.{has_bytes}
use Rattle.extract_spec.specs.Links.{body_refs, header_refs, is_redirection, links_from, most_links, page_refs, part_refs}
use Rattle.link_extract.specs.Words.{HasLetter}

-- a reference with the letter of a link
abbrev IsRead : Ref → Type 0
IsRead ref = IsTrue (is_link_letter ref.letter)

-- and one of a page, which may be a part
abbrev IsReadPart : Ref → Type 0
IsReadPart ref = All IsRead (part_refs ref)

one : {X : Type 0} (P : X → Type 0) (x : X) → P x → All P (x ∷ [])
one P x h = All-cons P x [] h (All-nil P)

flat : {X Y : Type 0} (P : Y → Type 0) (f : X → List Y) (h : (x : X) → All P (f x)) (xs : List X) → All P (flat_map f xs)
flat P f h [] = All-nil P
flat P f h (x ∷ xs) = All-append P (f x) (flat_map f xs) (h x) (flat P f h xs)

flat_all : {X Y : Type 0} (P : Y → Type 0) (f : X → List Y) (xs : List X) → All (λ x. All P (f x)) xs → All P (flat_map f xs)
flat_all P f [] h = All-nil P
flat_all P f (x ∷ xs) h = All-append P (f x) (flat_map f xs) (All-head (λ y. All P (f y)) x xs h) (flat_all P f xs (All-tail (λ y. All P (f y)) x xs h))

each : {X Y : Type 0} (P : Y → Type 0) (f : X → Y) (h : (x : X) → P (f x)) (xs : List X) → All P (map f xs)
each P f h [] = All-nil P
each P f h (x ∷ xs) = All-cons P (f x) (map f xs) (h x) (each P f h xs)

either : {X : Type 0} (P : X → Type 0) (b : Bool) (x y : X) → P x → P y → P (if b then x else y)
either P true x y h k = h
either P false x y h k = k

css_read : (text : List ℕ) → All IsRead (css_refs text)
css_read text = each IsRead (reference 69) (λ t. refl) (sought css_use text)

strings_read : (text : List ℕ) → All IsRead (string_refs text)
strings_read text = each IsRead (reference 88) (λ t. refl) (sought string_use text)

hyperlink_read : (text : List ℕ) → IsReadPart (reference 76 text)
hyperlink_read text = one IsRead (reference 76 text) refl

embedded_read : (text : List ℕ) → IsReadPart (reference 69 text)
embedded_read text = one IsRead (reference 69 text) refl

rel_read : (any : Bool) (text : List ℕ) → IsReadPart (reference (if any then 69 else 76) text)
rel_read true text = embedded_read text
rel_read false text = hyperlink_read text

refresh_read : (test : Bool) (texts : List (List ℕ)) → All IsReadPart (if test then map (reference 76) texts else [])
refresh_read true texts = each IsReadPart (reference 76) hyperlink_read texts
refresh_read false texts = All-nil IsReadPart

role_read : (role : Role) (all : List Attribute) (value : List ℕ) → All IsReadPart (refs_by role all value)
role_read Nothing all value = All-nil IsReadPart
role_read Hyperlink all value = one IsReadPart (reference 76 value) (hyperlink_read value)
role_read Embedded all value = one IsReadPart (reference 69 value) (embedded_read value)
role_read ByRel all value = one IsReadPart (reference (rel_letter (value_of Rel all)) value) (rel_read (list_any is_embedding_word (slice_split is_blank (value_of Rel all))) value)
role_read Candidates all value = each IsReadPart (reference 69) embedded_read (candidates value)
role_read Refresh all value = refresh_read _ (refresh_target value)
role_read StyleSheet all value = one IsReadPart (reference 67 value) (css_read value)

raw_read : (script style : Bool) (raw : List ℕ) → All IsReadPart (if script then reference 83 raw ∷ [] else (if style then reference 67 raw ∷ [] else []))
raw_read true style raw = one IsReadPart (reference 83 raw) (strings_read raw)
raw_read false true raw = one IsReadPart (reference 67 raw) (css_read raw)
raw_read false false raw = All-nil IsReadPart

tag_read : (tag : StartTag) → All IsReadPart (tag_refs tag)
tag_read tag =
    All-append IsReadPart (attribute_refs tag.element tag.attributes tag.attributes) (raw_refs tag.element tag.raw)
    (flat IsReadPart (λ (a : Attribute). refs_by (role_of tag.element a.name) tag.attributes a.value) (λ a. role_read (role_of tag.element a.name) tag.attributes a.value) tag.attributes)
    (raw_read (same_element tag.element Script) (same_element tag.element Style) tag.raw)

page_read : (payload : List ℕ) → All IsRead (page_refs payload)
page_read payload = flat_all IsRead part_refs (html_refs payload) (flat IsReadPart tag_refs tag_read (start_tags payload))

body_read : (read : Source) (payload : List ℕ) → All IsRead (body_refs read payload)
body_read source.Page payload = page_read payload
body_read source.StyleSheet payload = css_read payload
body_read source.Script payload = strings_read payload
body_read source.Nothing payload = All-nil IsRead

header_by : (test : Bool) (values : List (List ℕ)) → All IsRead (if test then map (reference 82) values else [])
header_by true values = each IsRead (reference 82) (λ t. refl) values
header_by false values = All-nil IsRead

header_read : (status : ℕ) (fields : List Pair) → All IsRead (header_refs status fields)
header_read status fields = header_by (is_redirection status) _

linked_by : (some : Bool) (uri : Option (List ℕ)) (letter : ℕ) → IsTrue (is_link_letter letter) → IfSome (if some then option_map (found_by letter) uri else None) HasLetter
linked_by true (Some uri) letter h = h
linked_by true None letter h = tt
linked_by false uri letter h = tt

put : (o : Option Found) (links : List Found) → IfSome o HasLetter → All HasLetter links → All HasLetter (cons_option o links)
put None links h all = all
put (Some found) links h all = All-cons HasLetter found links h all

filtered : (base : List ℕ) (refs : List Ref) → All IsRead refs → All HasLetter (filter_map (linked base) refs)
filtered base [] all = All-nil HasLetter
filtered base (ref ∷ refs) all =
    put (linked base ref) (filter_map (linked base) refs)
    (linked_by (has_bytes (cleaned ref.text)) (joined base (cleaned ref.text)) ref.letter (All-head IsRead ref refs all))
    (filtered base refs (All-tail IsRead ref refs all))

-- the links of a head and a body have the letters of links
pub links_letters : (base : List ℕ) (status : ℕ) (fields : List Pair) (read : Source) (payload : List ℕ) → All HasLetter (links_from base (header_refs status fields ++ body_refs read payload))
links_letters base status fields read payload =
    let refs : List Ref = header_refs status fields ++ body_refs read payload in
    All-take HasLetter most_links (filter_map (linked base) refs)
    (filtered base refs (All-append IsRead (header_refs status fields) (body_refs read payload) (header_read status fields) (body_read read payload)))
