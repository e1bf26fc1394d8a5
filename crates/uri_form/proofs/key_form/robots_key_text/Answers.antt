use Rattle.std.proofs.Common.{◌≡◌, ◌++◌, codes, string_bytes, rules, sym, ◌∙◌}
use Rattle.uri_spec.specs.Surt.{class_of}
use Rattle.uri_form.proofs.KeyLaws.{robots_key-first}
use Rattle.uri_form.proofs.key_form.robots_key_text.Goals as goal

pub returns : goal.returns
returns c =
    let text : string_bytes c.push_class.new.out ≡ codes "robots0:" ++ class_of c.args.url.now = search rules in
    text ∙ sym (robots_key-first (class_of c.args.url.now))
