use Rattle.std.proofs.Common.{◌≡◌, ◌+◌, ◌-◌, ◌≤◌, length, drop}
use Rattle.link_spec.specs.Cut.{before_where}
use Rattle.link_spec.specs.Segments.{ends_comment}
use Rattle.html_links.proofs.segments.comment_len.Given as goal

abbrev pub invariant-loop-len : goal.invariant-loop-len
invariant-loop-len l = record { within : l.len ≤ length l.text; place : l.len + before_where (ends_comment) (drop l.len l.text) ≡ before_where (ends_comment) l.text }

abbrev pub decreases-loop-len : goal.decreases-loop-len
decreases-loop-len l = length l.text - l.len
