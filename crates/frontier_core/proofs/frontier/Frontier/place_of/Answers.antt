use Rattle.std.proofs.Common.{ap, ◌∙◌}
use Rattle.crawl_history.specs.History.{history_of}
use Rattle.crawl_history.specs.Places as places
use Rattle.frontier_core.specs.Core as core
use Rattle.frontier_core.proofs.frontier.Frontier.place_of.Goals as goal

pub returns : goal.returns
returns c =
    c.place_of.ensures (history_of c.self.inside.events.items) c.self.invariant
    ∙ ap (λ (own : core.Core). places.place_of (core.history own) c.args.key.now) c.self.view_is
