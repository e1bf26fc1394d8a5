use Rattle.std.proofs.Common.{◌≡◌, ◌++◌, length, map}
use Rattle.link_spec.specs.Words.{reference}
use Rattle.link_spec.specs.Values.{candidates, embedded}
use Rattle.html_links.proofs.elements.push_candidates.Given as goal

abbrev pub invariant-loop-rest : goal.invariant-loop-rest
invariant-loop-rest l = l.refs ++ map (reference embedded) (candidates l.rest) ≡ l.fn.refs ++ map (reference embedded) (candidates l.value)

abbrev pub decreases-loop-rest : goal.decreases-loop-rest
decreases-loop-rest l = length l.rest
