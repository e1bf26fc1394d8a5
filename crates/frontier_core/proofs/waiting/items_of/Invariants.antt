use Rattle.std.proofs.Common.{◌≡◌, map}
use Rattle.frontier_core.specs.declared.waiting.Turn.{Turn}
use Rattle.frontier_core.proofs.waiting.items_of.Given as goal

abbrev pub invariant-loop-turn : goal.invariant-loop-turn
invariant-loop-turn l = l.items ≡ map (λ (t : Turn). t.item) l.yielded
