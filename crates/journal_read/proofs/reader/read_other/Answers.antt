use Rattle.std.proofs.lemmas.Result.{err_from_is_err_and}
use Rattle.journal_read.specs.Reading.{left}
use Rattle.journal_read.proofs.Follows.{follows_joined, follows_more, follows_none}
use Rattle.journal_read.proofs.reader.read_other.Goals as goal

pub returns-in_err-line : goal.returns-in_err-line
returns-in_err-line c =
    let p = err_from_is_err_and c.from_residual.result c.from_residual.ensures.1 in
    let events = c.args.events.now.items in
    rw (p.1, p.2) (follows_none c.args.tag.now (left c.args.parts.now) (left c.tagged_line.new.parts) events events c.in_err-line.field-0.0 c.in_err-line.ensures)

pub returns-in_err-end : goal.returns-in_err-end
returns-in_err-end c =
    let p = err_from_is_err_and c.from_residual-in_err-end.result c.from_residual-in_err-end.ensures.1 in
    let events = c.args.events.now.items in
    rw (p.1, p.2, c.in_err-end.ensures.1) (follows_more c.args.tag.now (left c.args.parts.now) (left c.tagged_line.new.parts) events events c.in_ok-line.line c.in_ok-line.ensures.0 c.in_ok-line.ensures.1 c.in_err-end.ensures.0)

pub returns : goal.returns
returns c =
    follows_joined c.args.tag.now (left c.args.parts.now) (left c.tagged_line.new.parts) c.args.events.now.items c.join.new.events.items c.in_ok-line.line c.join.result c.in_ok-line.ensures.0 c.in_ok-line.ensures.1 c.in_ok-end.ensures c.join.ensures
