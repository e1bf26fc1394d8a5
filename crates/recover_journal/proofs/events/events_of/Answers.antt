use Rattle.std.proofs.Common.{refl, sym, ◌∙◌, ap, subst, List, ℕ}
use Rattle.crawl_kinds.specs.declared.event.Event.{Event}
use Rattle.gate_log.specs.Blocks.{IsBody}
use Rattle.journal_valid.specs.Valid.{IsSpelled}
use Rattle.recover_journal.specs.Faults.{IsBlockFault}
use Rattle.recover_journal.proofs.events.events_of.Goals as goal

pub returns-in-Err-BadLine-clause-bad : goal.returns-in-Err-BadLine-clause-bad
returns-in-Err-BadLine-clause-bad c =
    let text = c.as_slice-body.result.now in
    let bad = c.read_events.ensures.bad c.in-Err-BadLine.field-0-0 (c.in-Err-BadLine.is ∙ ap (λ fault. Rattle.std.proofs.Common.Err fault) c.in-Err-BadLine.field-0-is) in
    let none = λ (body : IsBody c.args.block.now.body) (own : List Event) (spelled : IsSpelled own c.args.block.now.body).
    c.one_bad_line.ensures.none c.in-Err-BadLine.field-0-0 text own bad (subst (λ (l : List ℕ). IsSpelled own l) (sym c.as_slice-body.ensures) spelled) in
    subst (IsBlockFault c.args.block.now) (sym c.damaged_at-in-Err-BadLine.ensures) (refl, refl, none)
