-- What rules say of a path (RFC 9309 §2.2.2).
--     Allows rules path      the path may be asked for
--     RobotsAllows text agent path      the file allows it to the agent
use Rattle.std.specs.Prelude.{◌≡◌, ℕ, ◌≤◌, ◌⊎◌, IsTrue, List, length, codes}
use Rattle.std.specs.List.{Contains}
use Rattle.robots_spec.specs.declared.Rule.{Rule}
use Rattle.robots_spec.specs.Groups.{agent_rules}
use Rattle.robots_spec.specs.Patterns.{Matches}

-- the rule is one of these and matches, and no rule that matches has a pattern of more octets (§2.2.2: the most octets)
pub record IsLongest (rules : List Rule) (path : List ℕ) (rule : Rule) : Type 0 where
  pub one_of : Contains rules rule
  pub matches : Matches rule.pattern path
  pub longest : (other : Rule) → Contains rules other → Matches other.pattern path → length other.pattern ≤ length rule.pattern

-- the robots file itself (§2.2.2: it is allowed in any case)
abbrev pub robots_file : List ℕ
robots_file = codes "/robots.txt"

-- no rule matches, or among the longest that match one allows (§2.2.2: at equal length allow)
abbrev pub RulesAllow : List Rule → List ℕ → Type 0
RulesAllow rules path =
    ((rule : Rule) → Contains rules rule → ¬ Matches rule.pattern path)
    ⊎ ((rule : Rule) × IsLongest rules path rule × IsTrue rule.allows)

-- the robots file is allowed, and what the rules allow
abbrev pub Allows : List Rule → List ℕ → Type 0
Allows rules path = (path ≡ robots_file) ⊎ RulesAllow rules path

-- the file of this text allows the agent to ask for the path, which is in its one form
abbrev pub RobotsAllows : List ℕ → List ℕ → List ℕ → Type 0
RobotsAllows text agent path = Allows (agent_rules text agent).rules path
