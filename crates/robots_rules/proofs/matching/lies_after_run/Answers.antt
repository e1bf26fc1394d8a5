use Rattle.std.proofs.Common.{rules, ◌<◌, ◌+◌, length, arith, ap, length-drop}
use Rattle.robots_rules.proofs.Lying.{same-star, same-differs, cost-star, cost-next}
use Rattle.robots_rules.proofs.matching.lies_after_run.Goals as goal

pub behind-pattern-requires : goal.behind-pattern-requires
behind-pattern-requires g c = c.in-Star.ensures.is.in_pattern

pub loop-n-preserved-in-Star : goal.loop-n-preserved-in-Star
loop-n-preserved-in-Star g c =
    let star = c.in-Star.ensures.is in
    record {
      same = same-star c.loop-n.pattern.now c.loop-n.path.now _ _ c.in-Star.n _ star c.behind-pattern.ensures c.from-path.ensures c.loop-n.invariant.same;
      counted = rw (c.behind-pattern.ensures, c.from-path.ensures, length-drop (c.in-Star.n + 1) c.loop-n.pattern.now, length-drop c.in-Star.n c.loop-n.path.now) (cost-star c.loop-n.steps c.compare.new.steps (length c.loop-n.pattern.now) (length c.loop-n.path.now) c.in-Star.n _ c.in-Star.ensures.cost star.in_pattern star.in_path c.loop-n.invariant.counted);
    }

pub loop-n-preserved : goal.loop-n-preserved
loop-n-preserved g c =
    let some : 0 < length c.loop-n.path.now = search rules in
    record {
      same = same-differs c.loop-n.pattern.now c.loop-n.path.now c.from.result.now _ _ c.in-Differs.ensures.is some c.from.ensures c.next_place-path.ensures.same c.loop-n.invariant.same;
      counted = cost-next c.loop-n.steps c.compare.new.steps _ (length c.loop-n.pattern.now) (length c.loop-n.path.now) (length c.from.result.now) _ _ c.in-Differs.ensures.cost (omega (arith, ap length c.from.ensures, length-drop 1 c.loop-n.path.now)) c.next_place-path.ensures.cost c.next_place-path.ensures.shorter c.loop-n.invariant.counted;
    }
