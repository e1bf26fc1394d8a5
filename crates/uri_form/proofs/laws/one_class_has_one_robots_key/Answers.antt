use Rattle.std.proofs.Common.{sym, ap, ◌∙◌}
use Rattle.uri_spec.specs.Key.{robots_key}
use Rattle.uri_form.proofs.AddressLaws.{robots_key_is}
use Rattle.uri_form.proofs.laws.one_class_has_one_robots_key.Goals as goal

pub returns : goal.returns
returns c = λ same. robots_key_is c.args.one.now c.requires.one ∙ ap (robots_key 0) same ∙ sym (robots_key_is c.args.other.now c.requires.other)
