use Rattle.std.proofs.Common.{◌≡◌, map, take}
use Rattle.frontier_adds.specs.Candidates.{seed_item}
use Rattle.frontier_adds.proofs.candidates.seed_items.Given as goal

abbrev pub invariant-loop-uri : goal.invariant-loop-uri
invariant-loop-uri l = l.items ≡ map seed_item (take l.uri-index l.list)
