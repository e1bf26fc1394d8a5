use Rattle.std.proofs.Common.{◌≡◌, take}
use Rattle.prefix_set.proofs.set.PrefixSet.of.Given as goal

abbrev pub invariant-loop-prefix : goal.invariant-loop-prefix
invariant-loop-prefix g l = l.kept.items ≡ take l.prefix-index l.prefixes
