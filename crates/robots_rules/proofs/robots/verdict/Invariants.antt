use Rattle.robots_rules.proofs.Best.{IsBest}
use Rattle.robots_rules.proofs.robots.verdict.Given as goal

abbrev pub invariant-loop-rule : goal.invariant-loop-rule
invariant-loop-rule l = IsBest l.rules l.path l.rule-index l.longest l.allowed
