use Rattle.std.proofs.Common.{◌<◌, ◌-◌, vec_len, arith, refl}
use Rattle.journal_read.specs.declared.line.Line.TheVariants.{Add}
use Rattle.journal_read.proofs.Chains.{join_add, none_joins}
use Rattle.journal_read.proofs.joining.add_to_last.Goals as goal

pub returns-in-Some : goal.returns-in-Some
returns-in-Some c =
    let v = c.args.events.now in
    let some : 0 < vec_len v = c.in-Some.ensures.variant.0 refl in
    join_add v.items (vec_len v - 1) c.in-Some.event.now c.add_item.new.event c.args.item c.add_item.result (omega (arith, v.ok.0)) c.in-Some.ensures.value c.add_item.ensures

pub returns-in-None : goal.returns-in-None
returns-in-None c = none_joins c.args.events.now.items (Add c.args.item) (omega (arith, c.in-None.ensures.item)) refl
