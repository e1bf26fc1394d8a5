use Rattle.std.proofs.Common.{List, [], ℕ, sym, ap, ◌∙◌}
use Rattle.frontier_memo.specs.Keeping.{known_at, after_finish, waits_by}
use Rattle.frontier_memo.proofs.Keeping.{try_after_adds, waits_apart}
use Rattle.frontier_memo.proofs.places.add_and_try.Goals as goal

pub returns-clause-added : goal.returns-clause-added
returns-clause-added c all key =
    let kept = known_at c.args.places.now in
    let none = waits_apart (λ (key : List ℕ). waits_by (kept key)) [] c.args.adds.now c.args.item.now.key c.requires.waits (sym c.in_ok-add_each.ensures.free ∙ c.if-not-branch.false) in
    c.try_again.ensures key
    ∙ ap (after_finish c.args.item.now c.args.end.now key) (c.in_ok-add_each.ensures.added c.if-not-branch.false key)
    ∙ try_after_adds c.args.item.now c.args.end.now c.args.ordinals c.args.adds.now key (kept key) none
