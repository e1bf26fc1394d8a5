use Rattle.std.proofs.Common.{◌≡◌, rules}
use Rattle.uri_spec.specs.Surt.{surt_of}
use Rattle.uri_form.proofs.Authority.{surt_fits}
use Rattle.uri_form.proofs.surt_form.surt.Goals as goal

pub keep-requires : goal.keep-requires
keep-requires c =
    let text : c.as_str.result.now ≡ surt_of c.in_ok-url.url = search rules in
    rw text (surt_fits c.args.uri.now c.in_ok-url.url (search rules))
