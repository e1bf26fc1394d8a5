use Rattle.std.proofs.Common.{sym, ◌∙◌, rules}
use Rattle.frontier_memo.specs.Keeping.{known_at}
use Rattle.frontier_memo.proofs.Maps.{overwritten}
use Rattle.frontier_memo.proofs.Keeping.{tried_over, kept_there}
use Rattle.frontier_memo.proofs.places.try_again.Goals as goal

pub returns : goal.returns
returns c key =
    let w = c.count_try.new.known in
    let is = sym c.in-Some.ensures.value in
    overwritten c.args.places.now (c.get_mut.follows.lender w) c.args.item.now.key c.in-Some.known.now w is ((c.get_mut.follows.holds w).3 (search rules)) key
    ∙ tried_over c.args.item.now c.args.end.now key (known_at c.args.places.now key) c.in-Some.known.now w c.requires c.count_try.ensures
    (kept_there (known_at c.args.places.now) c.args.item.now key _ is)
