use Rattle.std.proofs.Common.{◌≡◌, ◌+◌, ◌-◌, ◌≤◌, length, drop}
use Rattle.std.specs.Prelude.{codes}
use Rattle.link_spec.specs.Cut.{before_where}
use Rattle.link_spec.specs.Words.{begins}
use Rattle.html_links.proofs.elements.url_place.Given as goal

abbrev pub invariant-loop-len : goal.invariant-loop-len
invariant-loop-len l = record { within : l.len ≤ length l.text; place : l.len + before_where (begins (codes "url=")) (drop l.len l.text) ≡ before_where (begins (codes "url=")) l.text }

abbrev pub decreases-loop-len : goal.decreases-loop-len
decreases-loop-len l = length l.text - l.len
