use Rattle.std.proofs.Common.{◌≡◌, [], ◌++◌, refl, ap, ◌∙◌}
use Rattle.std.specs.List.{flat_map}
use Rattle.std.proofs.lemmas.List.Elements.{All-nil, All-same}
use Rattle.extract_spec.specs.Joining.{html_base_of}
use Rattle.extract_spec.specs.Links.{page_refs, part_refs}
use Rattle.link_extract.specs.Words.{base_by, HasAddress}
use Rattle.link_extract.specs.Growing.{with_refs}
use Rattle.link_extract.proofs.Growing.{with_step}
use Rattle.link_extract.proofs.response.page_links.Goals as goal

pub returns-clause-links : goal.returns-clause-links
returns-clause-links c =
    let uri = c.args.uri.now in
    let payload = c.args.payload.now in
    let redirects = c.args.redirects.now in
    let base : c.in_ok-base.base ≡ html_base_of uri payload = c.in_ok-base.ensures ∙ ap (base_by uri) c.in_ok-page.ensures.base in
    let refs : flat_map part_refs c.as_slice-2.result.now ≡ page_refs payload =
    ap (flat_map part_refs) (c.as_slice-2.ensures ∙ c.in_ok-page.ensures.refs) in
    let first : c.take_refs.new.links ≡ with_refs [] (html_base_of uri payload) redirects =
    c.in_ok-take_refs.ensures.links ∙ (λ i. with_refs (c.new-links.ensures i) (base i) (c.as_slice.ensures i)) in
    let second : c.take_parts.new.links ≡ with_refs c.take_refs.new.links (html_base_of uri payload) (page_refs payload) =
    c.in_ok-take_parts.ensures.links ∙ (λ i. with_refs c.take_refs.new.links (base i) (refs i)) in
    with_step [] c.take_refs.new.links c.take_parts.new.links (html_base_of uri payload) redirects (page_refs payload) (redirects ++ page_refs payload) first second refl

pub returns-clause-addresses : goal.returns-clause-addresses
returns-clause-addresses c =
    let none = All-same HasAddress c.new-links.result [] c.new-links.ensures (All-nil HasAddress) in
    c.in_ok-take_parts.ensures.addresses (c.in_ok-take_refs.ensures.addresses none)
