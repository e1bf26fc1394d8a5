-- The links of a response.
--     header_refs status fields      the references of its head
--     body_refs source payload      those of its body
--     links_of uri status fields payload      the links
use Rattle.std.specs.Prelude.{ℕ, Bool, ◌&&◌, ◌==◌, nat_le, if◌then◌else◌, List, [], ◌∷◌, ◌++◌, take, map, codes}
use Rattle.std.specs.List.{filter_map, flat_map}
use Rattle.page_spec.specs.Fields.{Pair, values_of}
use Rattle.link_spec.specs.Words.{reference}
use Rattle.link_spec.specs.Values.{script_part, style_part}
use Rattle.link_spec.specs.Css.{css_refs}
use Rattle.link_spec.specs.Scripts.{string_refs}
use Rattle.link_spec.specs.Elements.{html_refs}
use Rattle.link_spec.specs.declared.reference.Ref.{Ref}
use Rattle.extract_spec.specs.declared.found.Found.{Found}
use Rattle.extract_spec.specs.declared.source.Source.{Source}
use Rattle.extract_spec.specs.declared.source.Source.TheVariants.{Page, StyleSheet, Script, Nothing}
use Rattle.extract_spec.specs.Source.{source_of}
use Rattle.extract_spec.specs.Joining.{base_of, linked}

-- a page has so many links at most
abbrev pub most_links : ℕ
most_links = 6000

-- the letter of a redirect
abbrev pub redirect : ℕ
redirect = 82

-- a status from 300 to 399 (RFC 9110 section 15.4)
abbrev pub is_redirection : ℕ → Bool
is_redirection status = nat_le 300 status && nat_le status 399

-- each Location of a redirection (RFC 9110 section 10.2.2)
abbrev pub header_refs : ℕ → List Pair → List Ref
header_refs status fields = if is_redirection status then map (reference redirect) (values_of (codes "location") fields) else []

-- what stands for a reference of a page: the references of a part, and else itself
abbrev pub part_refs : Ref → List Ref
part_refs ref =
    if ref.letter == style_part then css_refs ref.text
    else if ref.letter == script_part then string_refs ref.text
    else ref ∷ []

-- the references of a page, with those of its parts in their places
abbrev pub page_refs : List ℕ → List Ref
page_refs payload = flat_map part_refs (html_refs payload)

abbrev pub body_refs : Source → List ℕ → List Ref
body_refs Page payload = page_refs payload
body_refs StyleSheet payload = css_refs payload
body_refs Script payload = string_refs payload
body_refs Nothing payload = []

-- the first links that references make against a base
abbrev pub links_from : List ℕ → List Ref → List Found
links_from base refs = take most_links (filter_map (linked base) refs)

-- the links of the response of an address: of its head, and then of its body. It unfolds only where a proof asks for it.
unfoldable pub links_of : List ℕ → ℕ → List Pair → List ℕ → List Found
links_of uri status fields payload =
    let source = source_of fields in
    links_from (base_of uri source payload) (header_refs status fields ++ body_refs source payload)
