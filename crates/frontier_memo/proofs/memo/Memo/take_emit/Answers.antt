use Rattle.std.proofs.Common.{refl}
use Rattle.frontier_memo.proofs.Taking.{emit_taken, may_emit}
use Rattle.frontier_memo.proofs.memo.Memo.take_emit.Goals as goal

pub returns-then-not-emit_fits-clause-taken : goal.returns-then-not-emit_fits-clause-taken
returns-then-not-emit_fits-clause-taken c h is fits =
    let yes_it_may = c.emit_fits.ensures.1 (may_emit h c.args.self.now c.args.one.ticket c.args.one.item is fits.kind) in
    let no_it_may_not = c.if-not-emit_fits.true in
    cc

pub returns-clause-taken : goal.returns-clause-taken
returns-clause-taken c h is =
    emit_taken h c.args.self.now _ c.args.one is (c.emit_fits.ensures.0 c.if-not-emit_fits.false) refl refl refl c.max-self.ensures refl (c.in_ok-put_out.ensures.ok h) refl
