use Rattle.std.proofs.Common.{refl}
use Rattle.std.specs.Prelude.{codes}
use Rattle.std.proofs.lemmas.Result.{err_from_is_err_and}
use Rattle.journal_read.specs.declared.line.Line.TheVariants.{Add}
use Rattle.journal_read.specs.Reading.{left}
use Rattle.journal_read.proofs.Follows.{follows_joined, follows_none}
use Rattle.journal_read.proofs.Tagged.{add_out}
use Rattle.journal_read.proofs.reader.read_add.Goals as goal

pub returns-in_err-item : goal.returns-in_err-item
returns-in_err-item c =
    let p = err_from_is_err_and c.from_residual.result c.from_residual.ensures.1 in
    let mid = left c.args.parts.now in
    let new = left c.take_add.new.parts in
    let events = c.args.events.now.items in
    rw (p.1, p.2) (follows_none (codes "F+") mid new events events c.in_err-item.field-0.0 (add_out mid new c.in_err-item.field-0.0 c.in_err-item.ensures))

pub returns : goal.returns
returns c =
    follows_joined (codes "F+") (left c.args.parts.now) (left c.take_add.new.parts) c.args.events.now.items c.add_to_last.new.events.items (Add c.in_ok-item.item) c.add_to_last.result (c.in_ok-item.ensures.0, refl) c.in_ok-item.ensures.1 c.in_ok-end.ensures c.add_to_last.ensures
