use Rattle.std.proofs.Common.{ap, ◌∙◌, refl}
use Rattle.crawl_history.specs.Emission.{is_over}
use Rattle.frontier_core.specs.Core.{Core, facts, history}
use Rattle.frontier_core.proofs.frontier.Frontier.over.Goals as goal

pub returns : goal.returns
returns c pages a =
    let own : Core = record { settings = c.self.inside.settings; scope = c.self.inside.scope; events = c.self.inside.events.items; robots = c.self.inside.robots.entries } in
    c.over.ensures pages a own refl c.self.invariant
    ∙ ap (λ (core : Core). is_over (facts core pages) a (history core) c.next_time-at.result) c.self.view_is
    ∙ ap (is_over (facts c.args.self.now pages) a (history c.args.self.now)) c.next_time-at.ensures
