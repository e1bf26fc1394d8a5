use Rattle.std.proofs.Common.{◌≡◌, [], ◌++◌, refl, ◌∙◌}
use Rattle.std.proofs.lemmas.List.Elements.{All-nil, All-same}
use Rattle.link_extract.specs.Words.{HasAddress}
use Rattle.link_extract.specs.Growing.{with_refs}
use Rattle.link_extract.proofs.Growing.{with_step}
use Rattle.link_extract.proofs.response.plain_links.Goals as goal

pub returns-clause-links : goal.returns-clause-links
returns-clause-links c =
    let uri = c.args.uri.now in
    let redirects = c.args.redirects.now in
    let refs = c.args.refs.now in
    let first : c.take_refs.new.links ≡ with_refs [] uri redirects =
    c.in_ok-take_refs.ensures.links ∙ (λ i. with_refs (c.new-links.ensures i) (c.in_ok-base.ensures i) (c.as_slice.ensures i)) in
    let second : c.take_refs-2.new.links ≡ with_refs c.take_refs.new.links uri refs =
    c.in_ok-take_refs-2.ensures.links ∙ (λ i. with_refs c.take_refs.new.links (c.in_ok-base.ensures i) (c.as_slice-2.ensures i)) in
    with_step [] c.take_refs.new.links c.take_refs-2.new.links uri redirects refs (redirects ++ refs) first second refl

pub returns-clause-addresses : goal.returns-clause-addresses
returns-clause-addresses c =
    let none = All-same HasAddress c.new-links.result [] c.new-links.ensures (All-nil HasAddress) in
    c.in_ok-take_refs-2.ensures.addresses (c.in_ok-take_refs.ensures.addresses none)
