use Rattle.std.proofs.Common.{◌≡◌, ◌++◌, length}
use Rattle.link_spec.specs.Entities.{decoded}
use Rattle.html_links.proofs.entities.decoded.Given as goal

abbrev pub invariant-loop-rest : goal.invariant-loop-rest
invariant-loop-rest l = l.own.items ++ decoded l.rest ≡ decoded l.value

abbrev pub decreases-loop-rest : goal.decreases-loop-rest
decreases-loop-rest l = length l.rest
