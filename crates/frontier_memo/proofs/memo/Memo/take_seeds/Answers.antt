use Rattle.std.proofs.Common.{refl, sym, ◌∙◌}
use Rattle.frontier_memo.proofs.Taking.{kept_on_err, seeds_taken, seeds_refused}
use Rattle.frontier_memo.proofs.memo.Memo.take_seeds.Goals as goal

pub returns-in_err-add_each-clause-err : goal.returns-in_err-add_each-clause-err
returns-in_err-add_each-clause-err c =
    kept_on_err c.from_residual-in_err-add_each.result c.args.self.now _ c.in_err-add_each.ensures.err refl refl refl refl (λ h is. is) (λ h is. is)

pub returns-then-not-branch-clause-taken : goal.returns-then-not-branch-clause-taken
returns-then-not-branch-clause-taken c h list is =
    seeds_refused h c.args.self.now c.args.time list c.args.adds.now is c.args.self.now (sym c.in_ok-add_each.ensures.free ∙ c.if-not-branch.true)

pub returns-clause-taken : goal.returns-clause-taken
returns-clause-taken c h list is =
    seeds_taken h c.args.self.now c.args.time list c.args.adds.now is _ (sym c.in_ok-add_each.ensures.free ∙ c.if-not-branch.false)
    (c.in_ok-add_each.ensures.added c.if-not-branch.false) c.in_ok-ordinals.ensures refl c.max-self.ensures refl refl refl
