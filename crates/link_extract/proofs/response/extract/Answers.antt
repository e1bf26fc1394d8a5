use Rattle.std.proofs.Common.{◌≡◌, ap, sym, ◌∙◌}
use Rattle.httparse.specs.Grammar.{status_code}
use Rattle.page_spec.specs.Response.{fields_of}
use Rattle.http_message.specs.Kept.{IsKept, pairs_of}
use Rattle.extract_spec.specs.Source.{source_of}
use Rattle.extract_spec.specs.Links.{header_refs}
use Rattle.link_extract.proofs.Responses.{gives_letters, gives_links}
use Rattle.link_extract.proofs.response.extract.Goals as goal

pub returns-clause-links : goal.returns-clause-links
returns-clause-links c = λ h payload at.
    let head = c.in-Some.head in
    let kept : IsKept c.args.block.now head h payload = rw c.in-Some.is at (c.in_ok-head.ensures.found h payload at) in
    let redirects : c.in_ok-redirects.redirects ≡ header_refs (status_code h) (fields_of h) = c.in_ok-redirects.ensures ∙ (λ i. header_refs (kept.status i) (kept.fields i)) in
    let source : c.in_ok-source.source ≡ source_of (fields_of h) = c.in_ok-source.ensures ∙ ap source_of kept.fields in
    gives_links c.body_links.result c.args.uri.now (status_code h) (fields_of h) payload c.in_ok-redirects.redirects c.in_ok-source.source c.from.result.now
    redirects source (c.from.ensures ∙ sym kept.rest_is) c.body_links.ensures.links

pub returns-clause-letters : goal.returns-clause-letters
returns-clause-letters c =
    gives_letters c.body_links.result c.args.uri.now c.in-Some.head.status (pairs_of c.in-Some.head.fields) c.in_ok-redirects.redirects c.in_ok-source.source c.from.result.now
    c.in_ok-redirects.ensures c.body_links.ensures.links
