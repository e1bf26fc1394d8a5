-- What a sequence of rules decides: all rules answer, and the last answer decides (the decide rules of Heritrix 3). Where
-- none answers, the candidate is rejected.
--     decision rules seeds uri surt path      the decision
--     patterns_of rules      the patterns of all rules, in order
--     first_bad rules      the place of the first of them that is none
--     has_patterns rules      there is one
use Rattle.std.specs.Prelude.{ℕ, Bool, not, nat_lt, length, List, [], map, Option, None, position, unwrap_or, flat_map}
use Rattle.std.specs.List.{filter_map, last_or}
use Rattle.scope_spec.specs.declared.rule.Decision.{Decision}
use Rattle.scope_spec.specs.declared.rule.Decision.TheVariants as decided
use Rattle.scope_spec.specs.declared.rule.Rule.{Rule}
use Rattle.scope_spec.specs.declared.rule.Rule.TheVariants as rule
use Rattle.scope_spec.specs.Answer.{answer_of}
use Rattle.scope_spec.specs.Pattern.{is_pattern}

-- what each rule answers, in order
abbrev pub answers : List Rule → List (List ℕ) → List ℕ → List ℕ → List ℕ → List (Option Decision)
answers rules seeds uri surt path = map (answer_of seeds uri surt path) rules

-- the last answer that is one
abbrev pub last_answer : List (Option Decision) → Option Decision
last_answer given = last_or None (filter_map (λ answer. answer) given)

-- the decision on an address with its SURT form and its discovery path, by the prefixes that seeds make
abbrev pub decision : List Rule → List (List ℕ) → List ℕ → List ℕ → List ℕ → Decision
decision rules seeds uri surt path = unwrap_or (last_answer (answers rules seeds uri surt path)) decided.Reject

-- the patterns of one rule
abbrev pub rule_patterns : Rule → List (List ℕ)
rule_patterns (rule.Regex answer patterns) = patterns
rule_patterns other = []

-- the patterns of all rules
abbrev pub patterns_of : List Rule → List (List ℕ)
patterns_of rules = flat_map rule_patterns rules

-- the place of the first that is no pattern, counted over all rules
abbrev pub first_bad : List Rule → Option ℕ
first_bad rules = position (λ source. not (is_pattern source)) (patterns_of rules)

-- a rule has a pattern
abbrev pub has_patterns : List Rule → Bool
has_patterns rules = nat_lt 0 (length (patterns_of rules))

-- what a scope is made of: its rules, and the prefixes that seeds make
pub record ScopeRules : Type 0 where
  pub rules : List Rule
  pub seeds : List (List ℕ)
