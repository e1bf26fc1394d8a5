use Rattle.std.proofs.Common.{◌≡◌, ◌++◌, map, length}
use Rattle.link_spec.specs.Cut.{sought}
use Rattle.link_spec.specs.Words.{reference}
use Rattle.link_spec.specs.Css.{css_refs, css_use}
use Rattle.plain_links.proofs.css.css_refs.Given as goal

abbrev pub invariant-loop-rest : goal.invariant-loop-rest
invariant-loop-rest l = l.refs ++ map (reference 69) (sought css_use l.rest) ≡ css_refs l.text

abbrev pub decreases-loop-rest : goal.decreases-loop-rest
decreases-loop-rest l = length l.rest
