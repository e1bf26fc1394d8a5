use Rattle.recover_journal.specs.Holds.{AreEvents}
use Rattle.recover_journal.proofs.events.events_of_all.Given as goal

abbrev pub invariant-loop-block : goal.invariant-loop-block
invariant-loop-block l = AreEvents l.yielded l.events.items l.gates.items
