use Rattle.std.proofs.Common.{Option, None, Some, sym, ◌∙◌, ap, refl, rules}
use Rattle.std.specs.Prelude.{bytes_eq, if◌then◌else◌}
use Rattle.frontier_memo.proofs.Maps.{written}
use Rattle.frontier_memo.specs.Sums.{class_at}
use Rattle.frontier_core.specs.declared.robots.KeptRobots.{KeptRobots}
use Rattle.frontier_core.proofs.robots.put_back.Goals as goal

pub returns-in_default-clause-back : goal.returns-in_default-clause-back
returns-in_default-clause-back c q =
    written c.args.robots.now c.remove.new.self c.args.class.now c.args.class.now None refl c.remove.ensures.updates q
    ∙ ap (λ (w : Option KeptRobots). if bytes_eq c.args.class.now q then w else class_at c.args.robots.now q) (sym c.in_default.is)

pub returns-in-Some-get_mut-clause-back : goal.returns-in-Some-get_mut-clause-back
returns-in-Some-get_mut-clause-back c q =
    written c.args.robots.now (c.get_mut.follows.lender c.replace.new.dest) c.args.class.now c.args.class.now (Some c.replace.new.dest) refl
    ((c.get_mut.follows.holds c.replace.new.dest).3 (search rules)) q
    ∙ ap (λ (w : Option KeptRobots). if bytes_eq c.args.class.now q then w else class_at c.args.robots.now q) (ap Some c.replace.ensures.after ∙ sym c.in-Some.is)
