use Rattle.std.proofs.Common.{◌≡◌, false, take}
use Rattle.std.specs.List.{list_any}
use Rattle.scope_spec.specs.Decision.{patterns_of}
use Rattle.scope_rules.specs.Patterns.{is_bad}
use Rattle.scope_rules.proofs.scope.compile.Given as goal

abbrev pub invariant-loop-rule : goal.invariant-loop-rule
invariant-loop-rule l = record {
  kept : l.patterns.items ≡ patterns_of (take l.rule-index l.rules);
  good : list_any is_bad l.patterns.items ≡ false;
}
