-- Which of two rules that match decides.
use Rattle.std.specs.Prelude.{◌≡◌, ℕ, ◌<◌, ◌⊎◌, IsTrue, length}
use Rattle.robots_spec.specs.declared.Rule.{Rule}

-- the rule decides in place of those whose longest pattern has so many octets
abbrev pub Outranks : Rule → ℕ → Type 0
Outranks rule longest = (longest < length rule.pattern) ⊎ ((longest ≡ length rule.pattern) × IsTrue rule.allows)
