use Rattle.std.proofs.Common.{◌≡◌, subst, None}
use Rattle.scope_spec.specs.Decision.{first_bad, patterns_of}
use Rattle.scope_rules.specs.Patterns.{is_bad}
use Rattle.scope_rules.proofs.FirstBad.{position-none}
use Rattle.scope_rules.proofs.scope.Scope.build.Goals as goal

pub returns-clause-good : goal.returns-clause-good
returns-clause-good c =
    subst (λ rules. first_bad rules ≡ None) c.deref.ensures.value (position-none is_bad (patterns_of c.deref.result.now) c.in_ok-patterns.ensures.good)
