-- Scopes that are asked whether they have patterns.
use Rattle.scope_spec.specs.Decision.{has_patterns}
use Rattle.scope_rules.specs.declared.threads.Asked.{Asked}

-- the scope was asked
abbrev pub told : Asked → Asked
told a = record { scope = a.scope; has_patterns = has_patterns a.scope.rules }
