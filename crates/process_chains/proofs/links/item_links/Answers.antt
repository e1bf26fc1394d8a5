use Rattle.std.proofs.Common.{List, ℕ, subst, sym, ◌∙◌, ◌≡◌}
use Rattle.extract_spec.specs.Links.{links_of}
use Rattle.httparse.specs.Grammar.{ResponseHead, status_code}
use Rattle.page_spec.specs.Response.{fields_of, IsHead}
use Rattle.process_chains.proofs.Redirects.{page_are}
use Rattle.process_chains.proofs.links.item_links.Goals as goal

pub returns : goal.returns
returns c =
    page_are c.args.item.now c.args.reply.now c.in_ok-links.links
    (subst (λ (block : List ℕ). (h : ResponseHead) (payload : List ℕ) → IsHead block h payload → c.in_ok-links.links ≡ links_of c.args.item.now.uri (status_code h) (fields_of h) payload) c.as_slice.ensures c.in_ok-links.ensures.links)
    c.in_ok-links.ensures.addresses c.in_ok-links.ensures.letters (sym c.is_prerequisite.ensures ∙ c.if-is_prerequisite.false)
