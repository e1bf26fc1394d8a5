use Rattle.std.proofs.Common.{◌≡◌, rules}
use Rattle.uri_spec.specs.Key.{key_of}
use Rattle.uri_form.proofs.KeyBounds.{key_fits}
use Rattle.uri_form.proofs.key_form.canonical_key.Goals as goal

pub keep-requires : goal.keep-requires
keep-requires c =
    let text : c.as_str.result.now ≡ key_of c.in_ok-url.url = search rules in
    rw text (key_fits c.args.uri.now c.in_ok-url.url (search rules))
