use Rattle.std.proofs.Common.{◌≡◌, ◌+◌, ◌-◌, ◌≤◌, length, drop}
use Rattle.link_spec.specs.Cut.{before_where}
use Rattle.link_spec.specs.Segments.{begins_segment}
use Rattle.html_links.proofs.segments.text_len.Given as goal

abbrev pub invariant-loop-len : goal.invariant-loop-len
invariant-loop-len l = record { within : l.len ≤ length l.text; place : l.len + before_where (begins_segment) (drop l.len l.text) ≡ before_where (begins_segment) l.text }

abbrev pub decreases-loop-len : goal.decreases-loop-len
decreases-loop-len l = length l.text - l.len
