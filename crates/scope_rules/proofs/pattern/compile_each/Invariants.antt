use Rattle.std.proofs.Common.{◌≡◌, ◌++◌, false, take}
use Rattle.std.specs.List.{list_any}
use Rattle.scope_rules.specs.Patterns.{is_bad}
use Rattle.scope_rules.proofs.pattern.compile_each.Given as goal

abbrev pub invariant-loop-text : goal.invariant-loop-text
invariant-loop-text l = record {
  kept : l.patterns.items ≡ l.fn.patterns.items ++ take l.text-index l.texts;
  good : list_any is_bad l.patterns.items ≡ false;
}
