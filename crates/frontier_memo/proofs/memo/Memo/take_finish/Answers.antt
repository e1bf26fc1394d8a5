use Rattle.std.proofs.Common.{refl, sym, ◌∙◌}
use Rattle.frontier_memo.proofs.Taking.{kept_on_err, finish_taken, finish_refused, may_finish}
use Rattle.frontier_memo.proofs.memo.Memo.take_finish.Goals as goal

pub returns-then-not-finish_fits-clause-taken : goal.returns-then-not-finish_fits-clause-taken
returns-then-not-finish_fits-clause-taken c h caller is fits =
    let yes_it_may = c.finish_fits.ensures.1 (may_finish h c.args.self.now c.args.ticket c.args.item.now is fits.kind) in
    let no_it_may_not = c.if-not-finish_fits.true in
    cc

pub returns-in_err-end_and_add-clause-err : goal.returns-in_err-end_and_add-clause-err
returns-in_err-end_and_add-clause-err c =
    kept_on_err c.from_residual-in_err-end_and_add.result c.args.self.now _ c.in_err-end_and_add.ensures.err refl refl refl refl c.make_room.ensures.same c.make_room-2.ensures.same

pub returns-then-not-branch-clause-taken : goal.returns-then-not-branch-clause-taken
returns-then-not-branch-clause-taken c h caller is =
    finish_refused h c.args.self.now c.args.time caller c.args.ticket c.args.item.now c.args.end.now c.args.adds.now is (c.finish_fits.ensures.0 c.if-not-finish_fits.false) c.args.self.now
    (sym c.in_ok-end_and_add.ensures.free ∙ c.if-not-branch.true)

pub returns-clause-taken : goal.returns-clause-taken
returns-clause-taken c h caller is =
    finish_taken h c.args.self.now c.args.time caller c.args.ticket c.args.item.now c.args.end.now c.args.adds.now is (c.finish_fits.ensures.0 c.if-not-finish_fits.false) _
    (sym c.in_ok-end_and_add.ensures.free ∙ c.if-not-branch.false) (c.in_ok-end_and_add.ensures.added c.if-not-branch.false) c.in_ok-ordinals.ensures refl c.max-self.ensures refl
    (λ given. c.end.ensures h caller c.args.adds.now (c.make_room.ensures.same h is.session) given)
    (c.count.ensures h c.args.time caller c.args.ticket c.args.adds.now (c.make_room-2.ensures.same h is.counts))
