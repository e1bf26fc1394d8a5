use Rattle.std.proofs.Common.{List, ℕ, subst, sym, ◌∙◌, ◌≡◌}
use Rattle.extract_spec.specs.Links.{links_of}
use Rattle.httparse.specs.Grammar.{ResponseHead, status_code}
use Rattle.page_spec.specs.Response.{fields_of, IsHead}
use Rattle.process_chains.proofs.Redirects.{none_are, redirect_are}
use Rattle.process_chains.proofs.links.robots_links.Goals as goal

pub returns-then-not-is_redirection : goal.returns-then-not-is_redirection
returns-then-not-is_redirection c = none_are c.args.item.now c.args.reply.now c.new.result c.requires.robots (sym c.is_redirection.ensures ∙ c.if-not-is_redirection.true) c.new.ensures

pub returns : goal.returns
returns c =
    redirect_are c.args.item.now c.args.reply.now c.in_ok-links.links
    (subst (λ (block : List ℕ). (h : ResponseHead) (payload : List ℕ) → IsHead block h payload → c.in_ok-links.links ≡ links_of c.args.item.now.uri (status_code h) (fields_of h) payload) c.as_slice.ensures c.in_ok-links.ensures.links)
    c.in_ok-links.ensures.addresses c.in_ok-links.ensures.letters
    c.in_ok-redirect.redirect c.requires.robots (sym c.is_redirection.ensures ∙ c.if-not-is_redirection.false) c.in_ok-redirect.ensures
