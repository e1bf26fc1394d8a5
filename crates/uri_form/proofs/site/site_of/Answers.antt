use Rattle.std.proofs.Common.{◌≡◌, rules}
use Rattle.uri_spec.specs.Surt.{class_of}
use Rattle.uri_form.proofs.Authority.{class_fits}
use Rattle.uri_form.proofs.site.site_of.Goals as goal

pub keep-requires : goal.keep-requires
keep-requires c =
    let text : c.as_str.result.now ≡ class_of c.in_ok-url.url = search rules in
    rw text (class_fits c.args.uri.now c.in_ok-url.url (search rules))
