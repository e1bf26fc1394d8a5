use Rattle.std.proofs.Common.{◌≡◌, ◌++◌, length}
use Rattle.record_spec.specs.Base32.{base32}
use Rattle.warc_record.proofs.base32.push_base32.Given as goal

-- what is written, and the letters of what is left, are the letters of all
abbrev pub invariant-loop-left : goal.invariant-loop-left
invariant-loop-left l = l.into.items ++ base32 l.left ≡ l.initial.into.items ++ base32 l.bytes

abbrev pub decreases-loop-left : goal.decreases-loop-left
decreases-loop-left l = length l.left
