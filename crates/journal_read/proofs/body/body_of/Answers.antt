use Rattle.std.proofs.lemmas.Result.{err_from_is_err_and}
use Rattle.journal_read.proofs.Bodies.{digest_out}
use Rattle.journal_read.proofs.body.body_of.Goals as goal

pub returns-in_err-digest : goal.returns-in_err-digest
returns-in_err-digest c =
    let p = err_from_is_err_and c.from_residual-in_err-digest.result c.from_residual-in_err-digest.ensures.1 in
    rw (p.1, p.2) (digest_out c.args.size.now c.args.media.now c.args.digest.now c.args.spot.now c.in_err-digest.field-0.0 c.in_err-digest.ensures)
