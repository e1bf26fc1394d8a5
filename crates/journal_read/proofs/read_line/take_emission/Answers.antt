use Rattle.std.proofs.lemmas.Result.{err_from_is_err_and}
use Rattle.journal_read.specs.Reading.{left}
use Rattle.journal_read.proofs.Tagged.{emission_no_item, emission_no_ticket}
use Rattle.journal_read.proofs.read_line.take_emission.Goals as goal

pub returns-in_err-item : goal.returns-in_err-item
returns-in_err-item c =
    let p = err_from_is_err_and c.from_residual.result c.from_residual.ensures.1 in
    let new = left c.take_item.new.parts in
    rw (p.1, p.2) (emission_no_item (left c.args.parts.now) new new c.in_err-item.field-0.0 c.in_err-item.ensures)

pub returns-in_err-ticket : goal.returns-in_err-ticket
returns-in_err-ticket c =
    let p = err_from_is_err_and c.from_residual-in_err-ticket.result c.from_residual-in_err-ticket.ensures.1 in
    let new = left c.take_ticket.new.parts in
    rw (p.1, p.2) (emission_no_ticket (left c.args.parts.now) (left c.take_item.new.parts) new new c.in_ok-item.item c.in_err-ticket.field-0.0 c.in_ok-item.ensures.1 c.in_err-ticket.ensures)
