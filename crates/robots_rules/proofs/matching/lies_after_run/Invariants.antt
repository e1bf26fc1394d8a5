use Rattle.std.proofs.Common.{◌+◌, ◌*◌, ◌≤◌, ◌↔◌, length}
use Rattle.robots_spec.specs.Patterns.{LiesOn, AfterRun}
use Rattle.robots_rules.proofs.matching.lies_after_run.Given as goal

abbrev pub invariant-loop-n : goal.invariant-loop-n
invariant-loop-n g l = record {
  same : AfterRun (LiesOn l.pattern) l.path ↔ AfterRun (LiesOn l.fn.after) l.fn.all;
  counted : l.steps + (length l.pattern + 1) * (length l.path + 1) ≤ l.fn.steps + (length l.fn.after + 1) * (length l.fn.all + 1);
}

abbrev pub decreases-loop-n : goal.decreases-loop-n
decreases-loop-n g l = length l.pattern + length l.path
