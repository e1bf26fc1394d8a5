use Rattle.std.proofs.Common.{◌≡◌, rules, None, append-nil}
use Rattle.std.specs.Prelude.{option_and_then}
use Rattle.url.specs.Host.{host_text, domain_of}
use Rattle.url.specs.Parts.{host_or_empty, nonempty_host}
use Rattle.uri_form.proofs.Authority.{surt_host-address}
use Rattle.uri_form.proofs.surt_form.push_host.Goals as goal

pub returns-in_ok-push_str-in-None : goal.returns-in_ok-push_str-in-None
returns-in_ok-push_str-in-None c =
    let url = c.args.url.now in
    let none : option_and_then domain_of (nonempty_host url) ≡ None = search rules in
    let host = surt_host-address url c.slice.ensures.valid c.requires none in
    let written : c.slice.result.now ≡ host_text (host_or_empty url) = search (rules, c.slice.ensures.value, append-nil) in
    rw (host, ← written) (search (rules, c.in_ok-push_str-in-None.ensures.bytes))
