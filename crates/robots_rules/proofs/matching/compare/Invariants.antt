use Rattle.std.proofs.Common.{◌+◌, ◌≤◌}
use Rattle.robots_rules.proofs.Lying.{IsSoFar}
use Rattle.robots_rules.proofs.matching.compare.Given as goal

abbrev pub invariant-loop-i : goal.invariant-loop-i
invariant-loop-i g l = record {
  so_far : IsSoFar l.pattern l.path l.i;
  counted : l.steps ≤ l.fn.steps + l.i;
}
