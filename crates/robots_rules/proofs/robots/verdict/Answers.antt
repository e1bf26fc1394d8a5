use Rattle.std.proofs.Common.{◌≡◌, length, arith}
use Rattle.robots_rules.proofs.Best.{best-end}
use Rattle.robots_rules.proofs.robots.verdict.Goals as goal

pub returns : goal.returns
returns c =
    let all : c.loop-rule.rule-index ≡ length c.args.rules.now = omega arith in
    best-end c.args.rules.now c.args.path.now c.loop-rule.longest c.loop-rule.allowed (rw all at c.loop-rule.invariant)
