use Rattle.std.proofs.Common.{◌≡◌, None, sym, ◌∙◌, ap}
use Rattle.frontier_memo.specs.Sums.{class_at}
use Rattle.frontier_memo.proofs.Keeping.{not_there}
use Rattle.frontier_memo.proofs.Maps.{roomed}
use Rattle.frontier_memo.proofs.classes.make_room.Goals as goal

pub returns-in_ok-insert-clause-same : goal.returns-in_ok-insert-clause-same
returns-in_ok-insert-clause-same g c q =
    let none : class_at c.args.map.now c.in_ok-copy.field-0 ≡ None =
    ap (class_at c.args.map.now) c.in_ok-copy.ensures ∙ not_there (class_at c.args.map.now c.args.class.now) (sym c.contains_key.ensures ∙ c.if-not-contains_key.true) in
    roomed c.args.map.now c.insert.new.self c.in_ok-copy.field-0 c.args.none none c.in_ok-insert.ensures.updates q
