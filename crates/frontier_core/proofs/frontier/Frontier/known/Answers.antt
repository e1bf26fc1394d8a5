use Rattle.std.proofs.Common.{ap, ◌∙◌}
use Rattle.frontier_core.specs.Core as core
use Rattle.frontier_core.proofs.frontier.Frontier.known.Goals as goal

pub returns : goal.returns
returns c = c.known.ensures c.self.inside.events.items c.self.invariant ∙ ap (λ (own : core.Core). core.known_count own) c.self.view_is
