-- Sets of prefixes.
--     prefixes_of rule      the prefixes of a rule
--     CoversAs prefixes set      the set covers the texts that begin with one of the prefixes
use Rattle.std.specs.Prelude.{◌≡◌, ℕ, List, []}
use Rattle.scope_spec.specs.Answer.{begins_with_any}
use Rattle.scope_spec.specs.declared.rule.Rule.{Rule}
use Rattle.scope_spec.specs.declared.rule.Rule.TheVariants as rule
use Rattle.prefix_set.specs.Prefixes.{covers}

-- the prefixes of a rule
abbrev pub prefixes_of : Rule → List (List ℕ)
prefixes_of (rule.Surts answer prefixes seeds) = prefixes
prefixes_of other = []

-- the set covers the texts that begin with one of the prefixes
pub record CoversAs (prefixes set : List (List ℕ)) : Type 0 where
  pub same : (text : List ℕ) → covers set text ≡ begins_with_any prefixes text
