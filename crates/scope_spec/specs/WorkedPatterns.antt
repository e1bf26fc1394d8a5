-- Worked examples of patterns.
use Rattle.std.specs.Prelude.{◌≡◌, true, false, [], ◌∷◌, codes, Some, None}
use Rattle.scope_spec.specs.declared.rule.Decision.TheVariants as decided
use Rattle.scope_spec.specs.declared.rule.Rule.TheVariants as rule
use Rattle.scope_spec.specs.Decision.{decision, first_bad}
use Rattle.scope_spec.specs.Pattern.{is_pattern, is_found}

pub record ArePatternsWorked : Type 0 where
  pub unclosed : is_pattern (codes "(") ≡ false
  pub empty : is_pattern [] ≡ true
  pub large : is_pattern (codes "a{99999999}") ≡ true
  pub found : is_found (codes "b+c") (codes "abbc") ≡ true
  pub not_found : is_found (codes "b+c") (codes "abb") ≡ false
  pub anywhere : is_found [] (codes "abb") ≡ true
  pub second : first_bad (rule.Regex decided.Accept (codes "a" ∷ []) ∷ rule.Accept ∷ rule.Regex decided.Reject (codes "(" ∷ codes ")" ∷ []) ∷ []) ≡ Some 1
  pub none : first_bad (rule.Regex decided.Accept (codes "a" ∷ []) ∷ []) ≡ None
  pub accepted : decision (rule.Regex decided.Accept (codes "x" ∷ codes "b" ∷ []) ∷ []) [] (codes "abb") [] [] ≡ decided.Accept
