use Rattle.std.proofs.Common.{◌≡◌, ◌∙◌, ap, sym, not, false, length, Some}
use Rattle.scope_spec.specs.Pattern.{is_pattern}
use Rattle.scope_rules.specs.Patterns.{is_bad}
use Rattle.scope_rules.proofs.FirstBad.{first-behind}
use Rattle.scope_rules.proofs.pattern.compile_each.Goals as goal

pub returns-in_default-clause-bad : goal.returns-in_default-clause-bad
returns-in_default-clause-bad c = λ i e.
    let text = c.text-item.result in
    let none : is_pattern text ≡ false = ap is_pattern (sym c.as_str.ensures.same) ∙ (rw c.in_default.is at c.in_ok-pattern.ensures) in
    let at = first-behind is_bad c.args.patterns.now.items c.args.texts.now c.loop-text.patterns.items c.loop-text.text-index text
    c.loop-text.invariant.kept c.loop-text.invariant.good c.loop-text-test.true c.text-item.is (ap not none) in
    let len = c.loop-text.patterns.ok.0 in
    let same : length c.loop-text.patterns.items ≡ i = cc in
    at ∙ ap Some same
