use Rattle.std.proofs.Common.{◌≡◌, take}
use Rattle.frontier_adds.specs.Candidates.{link_items}
use Rattle.frontier_adds.proofs.candidates.link_items.Given as goal

abbrev pub invariant-loop-found : goal.invariant-loop-found
invariant-loop-found l = l.items ≡ link_items l.page (take l.found-index l.links)
