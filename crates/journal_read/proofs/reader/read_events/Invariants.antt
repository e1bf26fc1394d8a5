use Rattle.std.proofs.Common.{length}
use Rattle.journal_read.proofs.Progress.{IsRead}
use Rattle.journal_read.proofs.reader.read_events.Given as goal

abbrev pub invariant-lines : goal.invariant-lines
invariant-lines l = IsRead l.text l.rest l.line l.events.items

abbrev pub decreases-lines : goal.decreases-lines
decreases-lines l = length l.rest
