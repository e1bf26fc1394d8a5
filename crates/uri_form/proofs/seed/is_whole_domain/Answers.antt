use Rattle.std.proofs.Common.{◌≡◌, true, sym, ap, ◌∙◌, arith, rules}
use Rattle.std.specs.Prelude.{is_some, is_none, option_and_then}
use Rattle.std.proofs.lemmas.Bool.Decides.{nat_tests}
use Rattle.url.specs.Host.{domain_of}
use Rattle.url.specs.Parts.{host_or_empty, nonempty_host}
use Rattle.url.proofs.PiecesLemmas.{is_some-option_map}
use Rattle.uri_spec.specs.Prefix.{is_name}
use Rattle.uri_form.proofs.Authority.{is_some-domain}
use Rattle.uri_form.proofs.seed.is_whole_domain.Goals as goal

pub returns-then-is_none : goal.returns-then-is_none
returns-then-is_none c =
    let url = c.args.url.now in
    let none : is_none url.port ≡ true = search rules in
    let domain : is_some (option_and_then domain_of (nonempty_host url)) ≡ is_name (host_or_empty url) = is_some-domain url c.port.ensures.valid c.requires in
    let named : c.is_some.result ≡ is_name (host_or_empty url) = c.is_some.ensures ∙ sym (is_some-option_map (λ s. s.now) c.domain.result) ∙ ap is_some c.domain.ensures ∙ domain in
    rw (named, none) (grind (arith, nat_tests))
