-- Start and end tags of a page (HTML Standard §13.1.2), and the raw text behind some.
--     start_tag_at text      the start tag at the front, with the raw text behind it
--     tag_size text      how many bytes a tag takes behind `<` or `</`
use Rattle.std.specs.Prelude.{ℕ, ◌+◌, Bool, ◌&&◌, ◌||◌, ◌==◌, not, nat_eq, if◌then◌else◌, List, take, drop, codes, take_while}
use Rattle.std.specs.List.{prefix_len, starts_with}
use Rattle.link_spec.specs.Cut.{Piece, before_where}
use Rattle.link_spec.specs.Words.{is_blank, same_word}
use Rattle.link_spec.specs.Attributes.{attributes_of, attributes_size}
use Rattle.link_spec.specs.declared.page.Attribute.{Attribute}
use Rattle.link_spec.specs.declared.page.Element.{Element}
use Rattle.link_spec.specs.declared.page.Element.TheVariants.{Anchor, Link, Image, Video, Embedding, Script, Style, Object, Body, Meta, Base, Other}

-- a start tag: its element, its attributes that count, and the raw text behind it, which no element but two has
pub record StartTag : Type 0 where
  pub element : Element
  pub attributes : List Attribute
  pub raw : List ℕ

-- elements with `src` alone
abbrev pub is_embedding : List ℕ → Bool
is_embedding word = same_word word (codes "iframe") || same_word word (codes "frame") || same_word word (codes "embed") || same_word word (codes "audio") || same_word word (codes "track") || same_word word (codes "input")

-- the element of this name
abbrev pub element_of : List ℕ → Element
element_of word =
    if same_word word (codes "a") || same_word word (codes "area") then Anchor
    else if same_word word (codes "link") then Link
    else if same_word word (codes "img") || same_word word (codes "source") then Image
    else if same_word word (codes "video") then Video
    else if is_embedding word then Embedding
    else if same_word word (codes "script") then Script
    else if same_word word (codes "style") then Style
    else if same_word word (codes "object") then Object
    else if same_word word (codes "body") then Body
    else if same_word word (codes "meta") then Meta
    else if same_word word (codes "base") then Base
    else Other

-- their places in the list above
abbrev pub element_place : Element → ℕ
element_place Anchor = 0
element_place Link = 1
element_place Image = 2
element_place Video = 3
element_place Embedding = 4
element_place Script = 5
element_place Style = 6
element_place Object = 7
element_place Body = 8
element_place Meta = 9
element_place Base = 10
element_place Other = 11

-- the two elements are one
abbrev pub same_element : Element → Element → Bool
same_element a b = element_place a == element_place b

-- a tag's name runs to a blank, `/` or `>`
abbrev pub is_tag_name_byte : ℕ → Bool
is_tag_name_byte b = not (is_blank b || b == 47 || b == 62)

-- up to and with the `>` behind a tag's name and attributes, where the text is what follows `<` or `</`
abbrev pub tag_size : List ℕ → ℕ
tag_size text = prefix_len is_tag_name_byte text + attributes_size (drop (prefix_len is_tag_name_byte text) text) + 1

-- `</` and the name
abbrev pub ends_raw : List ℕ → List ℕ → Bool
ends_raw word text = starts_with nat_eq text (codes "</") && same_word (take_while is_tag_name_byte (drop 2 text)) word

-- how many bytes of raw text stand behind a start tag: up to an end tag of the same name, or the end
abbrev pub raw_size : Element → List ℕ → ℕ
raw_size element text =
    if same_element element Script then before_where (ends_raw (codes "script")) text
    else if same_element element Style then before_where (ends_raw (codes "style")) text
    else 0

-- the tag, and the raw text behind it
abbrev pub start_tag_at : List ℕ → Piece StartTag
start_tag_at text =
    let inner = drop 1 text in
    let n = prefix_len is_tag_name_byte inner in
    let element = element_of (take n inner) in
    let size = 1 + tag_size inner in
    let raw = raw_size element (drop size text) in
    record { size = size + raw; gives = record { element = element; attributes = attributes_of (drop n inner); raw = take raw (drop size text) } }
