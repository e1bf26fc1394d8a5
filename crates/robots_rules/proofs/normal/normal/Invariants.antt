use Rattle.std.proofs.Common.{◌≡◌, ◌++◌, length}
use Rattle.robots_spec.specs.Patterns.{normal}
use Rattle.robots_rules.proofs.normal.normal.Given as goal

abbrev pub invariant-loop-rest : goal.invariant-loop-rest
invariant-loop-rest l = l.own.items ++ normal l.rest ≡ normal l.bytes

abbrev pub decreases-loop-rest : goal.decreases-loop-rest
decreases-loop-rest l = length l.rest
