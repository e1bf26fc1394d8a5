use Rattle.std.proofs.Common.{◌≡◌, map, drop}
use Rattle.toml.specs.View.{view}
use Rattle.job_spec.specs.Unknown.{unknown_in_entry}
use Rattle.job_spec.specs.Values.{first_given}
use Rattle.job_order.proofs.unknown.unknown_in_rules.Given as goal

abbrev pub invariant-loop-entry : goal.invariant-loop-entry
invariant-loop-entry l = first_given (map unknown_in_entry (map view (drop l.entry-index l.entries))) ≡ first_given (map unknown_in_entry (map view l.entries))
