use Rattle.std.proofs.lemmas.Result.{err_from_is_err_and}
use Rattle.gate_log.proofs.whole.read_whole.Goals as goal

pub returns-in_err-bytes-clause-damaged : goal.returns-in_err-bytes-clause-damaged
returns-in_err-bytes-clause-damaged g c told = let p = err_from_is_err_and c.from_residual.result c.from_residual.ensures.1 in rw (p.1, p.2) (c.in_err-bytes.ensures.undamaged (g.V.Volume.contents c.args.volume.now c.args.file))
