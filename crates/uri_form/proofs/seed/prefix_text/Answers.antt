use Rattle.std.proofs.Common.{◌≡◌, rules}
use Rattle.uri_spec.specs.Prefix.{prefix_of}
use Rattle.uri_form.proofs.Authority.{prefix_fits}
use Rattle.uri_form.proofs.seed.prefix_text.Goals as goal

pub keep-requires : goal.keep-requires
keep-requires c =
    let text : c.as_str.result.now ≡ prefix_of c.args.named c.in_ok-url.url = search rules in
    rw text (prefix_fits c.args.named c.args.uri.now c.in_ok-url.url (search rules))
