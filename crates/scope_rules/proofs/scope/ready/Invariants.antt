use Rattle.std.proofs.Common.{◌≡◌}
use Rattle.scope_rules.proofs.scope.ready.Given as goal

abbrev pub invariant-loop-rule : goal.invariant-loop-rule
invariant-loop-rule l = l.made.items ≡ l.yielded
