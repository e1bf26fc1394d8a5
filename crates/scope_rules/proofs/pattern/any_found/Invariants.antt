use Rattle.std.proofs.Common.{◌≡◌, false, take}
use Rattle.std.specs.List.{list_any}
use Rattle.scope_spec.specs.Pattern.{is_found}
use Rattle.scope_rules.proofs.pattern.any_found.Given as goal

abbrev pub invariant-loop-finder : goal.invariant-loop-finder
invariant-loop-finder l = record {
  same : l.finders ≡ l.fn.finders;
  none : list_any (λ pattern. is_found pattern l.text) (take l.finder-index l.finders) ≡ false;
}
