use Rattle.std.proofs.Common.{◌≡◌, rules}
use Rattle.uri_spec.specs.Key.{key_of}
use Rattle.uri_spec.specs.Surt.{class_of}
use Rattle.uri_form.proofs.Authority.{class_fits}
use Rattle.uri_form.proofs.KeyBounds.{key_fits}
use Rattle.uri_form.proofs.Sites.{uri_fits}
use Rattle.uri_form.proofs.named.with_names.Goals as goal

pub keep-requires : goal.keep-requires
keep-requires c = uri_fits c.args.text.now c.args.url.now c.requires

pub keep-requires-2 : goal.keep-requires-2
keep-requires-2 c =
    let text : c.as_str.result.now ≡ key_of c.args.url.now = search rules in
    rw text (key_fits c.args.text.now c.args.url.now c.requires)

pub keep-requires-3 : goal.keep-requires-3
keep-requires-3 c =
    let text : c.as_str-2.result.now ≡ class_of c.args.url.now = search rules in
    rw text (class_fits c.args.text.now c.args.url.now c.requires)
