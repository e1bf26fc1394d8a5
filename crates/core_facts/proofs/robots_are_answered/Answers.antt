use Rattle.robots_spec.specs.Groups.{agent_rules}
use Rattle.robots_spec.specs.Patterns.{robots_path_of}
use Rattle.core_facts.proofs.Robots.{allows_decides}
use Rattle.core_facts.proofs.robots_are_answered.Goals as goal

pub returns : goal.returns
returns c = record { allows = λ agent text uri. allows_decides (agent_rules text agent).rules (robots_path_of uri) }
