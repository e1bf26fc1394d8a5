use Rattle.std.proofs.Common.{◌≡◌, true, false, sym, ap, ◌∙◌}
use Rattle.std.proofs.lemmas.Bool.{cond-true, cond-false}
use Rattle.uri_spec.specs.Key.{is_www}
use Rattle.uri_form.proofs.Www.{name_without_www-two, name_without_www-many}
use Rattle.uri_form.proofs.key_form.without_www.Goals as goal

pub returns-in_default-cut_first : goal.returns-in_default-cut_first
returns-in_default-cut_first c =
    sym (name_without_www-two c.args.name.now c.in-Some.first.now c.in-Some.rest.now c.in-Some.ensures.parts c.in_default-cut_first.ensures.parts)

pub returns-then-is_www : goal.returns-then-is_www
returns-then-is_www c =
    let www : is_www c.in-Some.first.now ≡ true = sym (ap is_www c.as_bytes.ensures.value) ∙ sym c.is_www.ensures ∙ c.if-is_www.true in
    sym (name_without_www-many c.args.name.now c.in-Some.first.now c.in-Some.rest.now _ c.in-Some-cut_first._more.now c.in-Some.ensures.parts c.in-Some-cut_first.ensures.parts ∙ cond-true _ _ _ www)

pub returns : goal.returns
returns c =
    let other : is_www c.in-Some.first.now ≡ false = sym (ap is_www c.as_bytes.ensures.value) ∙ sym c.is_www.ensures ∙ c.if-is_www.false in
    sym (name_without_www-many c.args.name.now c.in-Some.first.now c.in-Some.rest.now _ c.in-Some-cut_first._more.now c.in-Some.ensures.parts c.in-Some-cut_first.ensures.parts ∙ cond-false _ _ _ other)
