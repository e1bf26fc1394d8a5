use Rattle.std.proofs.Common.{◌≡◌, ◌+◌, length, get_or, arith}
use Rattle.robots_rules.proofs.Lying.{plain, so_far-more}
use Rattle.robots_rules.proofs.matching.compare.Goals as goal
use Rattle.robots_rules.proofs.matching.compare.Goals.{else-octet-eq36-via-then-octet-eq36+else-i-pattern, else-octet-eq36-via-else-octet-eq36}

pub loop-i-preserved : goal.loop-i-preserved
loop-i-preserved g c =
    let no_end : get_or c.args.pattern.now c.loop-i.i 0 ≡ 36 → c.loop-i.i + 1 ≡ length c.args.pattern.now → ⊥ = elim c.else-octet-eq36.branch [ else-octet-eq36-via-then-octet-eq36+else-i-pattern w ↦ λ _ e. w.if-i-pattern.false e | else-octet-eq36-via-else-octet-eq36 w ↦ λ e _. w.if-octet-eq36.false e ] in
    let here = plain c.args.pattern.now c.loop-i.i c.loop-i-test.true c.if-octet-eq42.false no_end in
    record {
      so_far = so_far-more _ _ _ _ c.loop-i.invariant.so_far here (omega arith) c.if-path-i.false;
      counted = omega arith;
    }
