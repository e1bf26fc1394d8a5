-- What comes of a pattern's octets before its first `*`.
use Rattle.std.specs.Prelude.{ℕ, ◌+◌, ◌<◌, ◌≤◌, List, length, drop}
use Rattle.robots_spec.specs.Patterns.{LiesOn, AfterRun}
use Rattle.robots_rules.specs.declared.matching.Compared.{Compared}
use Rattle.robots_rules.specs.declared.matching.Compared.TheVariants.{Lies, Differs, Star}

-- n octets of the pattern lie on the path's, and then a `*` stands: so it is on any path on which it lies
pub record IsStarAt (pattern path : List ℕ) (n : ℕ) : Type 0 where
  pub in_pattern : n < length pattern
  pub in_path : n ≤ length path
  pub enough : AfterRun (LiesOn (drop (n + 1) pattern)) (drop n path) → LiesOn pattern path
  pub needed : (other : List ℕ) → LiesOn pattern other → (n ≤ length other) × AfterRun (LiesOn (drop (n + 1) pattern)) (drop n other)

abbrev pub IsCompared : List ℕ → List ℕ → Compared → Type 0
IsCompared pattern path Lies = LiesOn pattern path
IsCompared pattern path Differs = ¬ LiesOn pattern path
IsCompared pattern path (Star n) = IsStarAt pattern path n

-- how many octets were looked at, at most
abbrev pub compare_cost : List ℕ → Compared → ℕ
compare_cost pattern Lies = length pattern
compare_cost pattern Differs = length pattern
compare_cost pattern (Star n) = n + 1
