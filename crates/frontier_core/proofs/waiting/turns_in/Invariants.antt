use Rattle.std.proofs.Common.{◌≡◌, ◌++◌, map}
use Rattle.std.specs.Prelude.{filter_map}
use Rattle.frontier_core.specs.Kept.{add_in, kept_adds, turn_add}
use Rattle.frontier_core.proofs.waiting.turns_in.Given as goal

abbrev pub invariant-loop-known : goal.invariant-loop-known
invariant-loop-known l = map turn_add l.turns.items ++ filter_map add_in l.known-iterator ≡ kept_adds l.places
