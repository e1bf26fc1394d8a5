use Rattle.std.proofs.Common.{ap, ◌∙◌, refl, sym, subst}
use Rattle.crawl_history.specs.Emission.{answer}
use Rattle.frontier_core.specs.Choosing.{IsReady}
use Rattle.frontier_core.specs.Core.{Core, facts, history}
use Rattle.frontier_core.specs.Standing.{Stands}
use Rattle.frontier_core.proofs.frontier.Frontier.decide.Goals as goal

pub returns-clause-answered : goal.returns-clause-answered
returns-clause-answered c pages a stands =
    let own : Core = record { settings = c.self.inside.settings; scope = c.self.inside.scope; events = c.self.inside.events.items; robots = c.self.inside.robots.entries } in
    ap (λ (core : Core). answer (facts core pages) a (history core) c.args.at) (sym c.self.view_is)
    ∙ c.decide.ensures.answered pages a own refl refl c.self.invariant (subst (Stands pages a) (sym c.self.view_is) stands)

pub returns-clause-ready : goal.returns-clause-ready
returns-clause-ready c = subst (λ (core : Core). IsReady (history core) c.decide.result) c.self.view_is (c.decide.ensures.ready c.self.inside.events.items c.self.invariant)
