use Rattle.std.proofs.Common.{◌∙◌, ◌++◌, ap, sym}
use Rattle.std.specs.Prelude.{position}
use Rattle.std.proofs.lemmas.Result.{err_from_is_err_and}
use Rattle.scope_spec.specs.Decision.{rule_patterns}
use Rattle.scope_rules.specs.Patterns.{is_bad}
use Rattle.scope_rules.proofs.FirstBad.{first-among}
use Rattle.scope_rules.proofs.scope.compile.Goals as goal

pub returns-in_err-compile_each-clause-bad : goal.returns-in_err-compile_each-clause-bad
returns-in_err-compile_each-clause-bad c = λ i e.
    let p = err_from_is_err_and c.from_residual.result c.from_residual.ensures.1 in
    let found = c.in_err-compile_each.ensures.bad i (cc) in
    let at = ap (λ texts. position is_bad (c.loop-rule.patterns.items ++ texts)) (sym c.patterns_of.ensures) ∙ found in
    first-among is_bad rule_patterns c.args.rules.now c.loop-rule.patterns.items c.loop-rule.rule-index c.rule-item.result i
    c.loop-rule.invariant.kept c.loop-rule-test.true c.rule-item.is at
