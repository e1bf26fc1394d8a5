use Rattle.std.proofs.Common.{◌≡◌, ◌+◌, ◌<◌, ◌≤◌, ◌++◌, length, drop, replicate}
use Rattle.scope_spec.specs.Answer.{has_run}
use Rattle.scope_spec.specs.UriParts.{segments_of}
use Rattle.scope_rules.proofs.kinds.has_run.Given as goal

abbrev pub invariant-loop-segment : goal.invariant-loop-segment
invariant-loop-segment l = record {
  same : has_run l.max (segments_of l.uri) ≡ has_run l.max (replicate l.run l.last ++ drop (length l.yielded) (segments_of l.uri));
  short : 0 < length l.last → l.run ≤ l.max;
  bound : l.run ≤ l.max + 1;
}
