use Rattle.std.proofs.Common.{◌≡◌, ◌+◌, ◌∷◌, arith}
use Rattle.atomic_table.specs.Table.{rest}
use Rattle.turn_client.proofs.tally.Tally.raise.Goals as goal

pub overflow_add-total : goal.overflow_add-total
overflow_add-total c = let h = c.requires.held in let e : c.value_mut-total.result.now ≡ h.0 = c.value_mut-total.ensures.value h.0 h.0 h.1 in let l = h.2 in omega arith

pub returns-clause-raised : goal.returns-clause-raised
returns-clause-raised c = λ x has. (has.0, (has.1.0, λ i. (0, c.value_mut-total.ensures.value x x has i + 1) ∷ rest (has.1.1 i)))
