use Rattle.std.proofs.Common.{◌≡◌, false, ap, ◌∙◌, refl, sym, subst}
use Rattle.std.specs.Prelude.{◌&&◌, is_none}
use Rattle.crawl_history.specs.Verdicts.{verdict}
use Rattle.core_facts.specs.CoreFacts.{is_secure}
use Rattle.frontier_core.specs.Core.{Core, facts, history}
use Rattle.frontier_core.specs.Standing.{Stands}
use Rattle.frontier_core.proofs.frontier.Frontier.work_of.Goals as goal

pub returns-clause-verdict : goal.returns-clause-verdict
returns-clause-verdict c pages a stands =
    let own : Core = record { settings = c.self.inside.settings; scope = c.self.inside.scope; events = c.self.inside.events.items; robots = c.self.inside.robots.entries } in
    c.in_ok-verdict.ensures.says pages a own refl (sym c.get-kept.ensures.value) (subst (Stands pages a) (sym c.self.view_is) stands)
    ∙ ap (λ (core : Core). verdict (facts core pages) a (history core) c.args.item c.args.at) c.self.view_is

pub returns-clause-allowed : goal.returns-clause-allowed
returns-clause-allowed c allowed =
    subst (λ (core : Core). (is_secure c.args.item.uri && is_none core.settings.proxy) ≡ false) c.self.view_is (c.in_ok-verdict.ensures.allowed allowed)
