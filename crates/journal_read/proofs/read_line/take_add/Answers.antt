use Rattle.std.proofs.Common.{◌∙◌, ap, arith}
use Rattle.std.proofs.lemmas.Result.{err_from_is_err_and}
use Rattle.journal_spec.specs.Fields.{item_fields}
use Rattle.journal_valid.specs.Items.{IsAdd, IsItem, robots_redirects}
use Rattle.journal_read.specs.Reading.{left}
use Rattle.journal_read.proofs.Tagged.{no_add, takes_less}
use Rattle.journal_read.proofs.read_line.take_add.Goals as goal

pub returns-in_err-item : goal.returns-in_err-item
returns-in_err-item c =
    let p = err_from_is_err_and c.from_residual.result c.from_residual.ensures.1 in
    let old = left c.args.parts.now in
    let new = left c.take_item.new.parts in
    rw (p.1, p.2) (takes_less item_fields IsItem item_fields IsAdd old old new new c.in_err-item.field-0.0 (λ y rest is e. (y, rest, is.named, e)) c.in_err-item.ensures)

pub returns-then-redirects-gt5 : goal.returns-then-redirects-gt5
returns-then-redirects-gt5 c x rest is e =
    no_add (left c.args.parts.now) (left c.take_item.new.parts) c.in_ok-item.item c.in-Some.redirects c.in_ok-item.ensures.0 c.in_ok-item.ensures.1 (c.in-Some.ensures ∙ ap robots_redirects c.as_bytes.ensures.same) (omega (arith, c.if-redirects-gt5.true)) x rest is e
