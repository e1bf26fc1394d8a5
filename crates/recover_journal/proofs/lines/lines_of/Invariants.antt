use Rattle.std.proofs.Common.{◌≡◌, take}
use Rattle.std.specs.List.{flat_map}
use Rattle.journal_spec.specs.Journal.{spelling}
use Rattle.recover_journal.proofs.lines.lines_of.Given as goal

abbrev pub invariant-loop-event : goal.invariant-loop-event
invariant-loop-event l = l.text.items ≡ flat_map spelling (take l.event-index l.events)
