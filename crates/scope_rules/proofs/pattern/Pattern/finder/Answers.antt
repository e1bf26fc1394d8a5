use Rattle.scope_rules.proofs.Patterns.{compiled_finds}
use Rattle.scope_rules.proofs.pattern.Pattern.finder.Goals as goal

pub invariant_of-result : goal.invariant_of-result
invariant_of-result c =
    rw (c.as_str.ensures, c.in_ok-matcher.ensures.pattern) (compiled_finds c.self.inside.regex c.self.invariant)
