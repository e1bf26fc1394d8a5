-- What follows for the computed answers.
use Rattle.std.specs.Prelude.{ℕ, List, IsTrue, ◌↔◌}
use Rattle.robots_spec.specs.Patterns.{robots_path_of}
use Rattle.robots_spec.specs.Verdict.{RobotsAllows}
use Rattle.core_facts.specs.RobotsAnswer.{allows_uri}

-- the answer for an address is what the rules of the file say of its path
pub record RobotsAreAnswered : Type 0 where
  pub allows : (agent text uri : List ℕ) → IsTrue (allows_uri agent text uri) ↔ RobotsAllows text agent (robots_path_of uri)
