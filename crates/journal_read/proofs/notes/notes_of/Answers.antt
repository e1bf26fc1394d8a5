-- Notes are taken one by one.
use Rattle.std.proofs.Common.{List, ℕ, subst, ◌∙◌, arith, w32, to_z, of_z}
use Rattle.std.proofs.lemmas.Int.{to_z-of_z}
use Rattle.crawl_kinds.specs.declared.event.Cut.{Cut}
use Rattle.journal_read.specs.Reading.{MayTake, left}
use Rattle.journal_read.specs.Ends.{cut_note}
use Rattle.journal_read.proofs.Noted.{notes_end, notes_read}
use Rattle.journal_read.proofs.notes.notes_of.Goals as goal

pub returns-in-Err : goal.returns-in-Err
returns-in-Err c x is =
    let a = left c.take_cut-cut.new.parts in
    let first = subst (λ (o : List (List ℕ)). MayTake cut_note (λ (_ : Cut). Unit {0}) o a c.take_cut-cut.result) c.of-parts.ensures c.take_cut-cut.ensures in
    notes_end c.args.text.now a (left c.take_tries-tries.new.parts) (left c.take_cause-cause.new.parts) c.take_cut-cut.result c.take_tries-tries.result c.take_cause-cause.result c.if-is_same.ensures first c.take_tries-tries.ensures c.take_cause-cause.ensures c.in-Err.ensures.0 x is.0 is.1

pub returns-in-Ok : goal.returns-in-Ok
returns-in-Ok c =
    let a = left c.take_cut-cut.new.parts in
    let first = subst (λ (o : List (List ℕ)). MayTake cut_note (λ (_ : Cut). Unit {0}) o a c.take_cut-cut.result) c.of-parts.ensures c.take_cut-cut.ensures in
    notes_read c.args.text.now a (left c.take_tries-tries.new.parts) (left c.take_cause-cause.new.parts) c.take_cut-cut.result c.take_tries-tries.result c.take_cause-cause.result first c.take_tries-tries.ensures c.take_cause-cause.ensures c.in-Ok.ensures c.tries_or_first.result (to_z w32 (of_z w32 c.cause_or_none.result)) c.tries_or_first.ensures (to_z-of_z w32 c.cause_or_none.result (grind (arith, c.cause_or_none.type_inv)) ∙ c.cause_or_none.ensures)
