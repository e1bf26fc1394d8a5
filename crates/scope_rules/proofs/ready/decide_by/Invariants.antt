use Rattle.std.proofs.Common.{◌≡◌, ◌≤◌, length, take}
use Rattle.scope_spec.specs.Decision.{decision, patterns_of}
use Rattle.scope_rules.proofs.ready.decide_by.Given as goal

abbrev pub invariant-rules : goal.invariant-rules
invariant-rules l = record {
  same : l.finders ≡ l.fn.finders;
  within : l.end ≤ length l.finders;
  own : take l.end l.finders ≡ patterns_of l.left;
  decided : decision l.rules l.seeds l.candidate.uri l.candidate.surt l.candidate.path ≡ decision l.left l.seeds l.candidate.uri l.candidate.surt l.candidate.path;
}

abbrev pub decreases-rules : goal.decreases-rules
decreases-rules l = length l.left
