use Rattle.std.proofs.Common.{◌≡◌, true, subst}
use Rattle.std.proofs.lemmas.Result.{IfOk-weaker}
use Rattle.crawl_kinds.specs.Event.{Finishing}
use Rattle.crawl_history.specs.Adds.{finish_adds}
use Rattle.crawl_history.specs.Facts.{Archive}
use Rattle.crawl_history.specs.History.{history_of}
use Rattle.core_facts.specs.CoreFacts.{Pages}
use Rattle.frontier_adds.specs.Shown.{ShowsLinks}
use Rattle.frontier_memo.specs.Laws.{are_new}
use Rattle.frontier_core.specs.Core.{Core, facts, history}
use Rattle.frontier_core.proofs.frontier.Frontier.adds_of.Goals as goal

pub returns-clause-same : goal.returns-clause-same
returns-clause-same c =
    let own : Core = record { settings = c.self.inside.settings; scope = c.self.inside.scope; events = c.self.inside.events.items; robots = c.self.inside.robots.entries } in
    IfOk-weaker c.finish_adds.result _ _
    (λ adds same.
    subst
    (λ (core : Core).
    (pages : Pages) (a : Archive) (end : Finishing) → end.item ≡ c.args.work.now.item → end.end ≡ c.args.end.now
    → ShowsLinks (facts core pages) a end c.args.links.now → adds ≡ finish_adds (facts core pages) a (history core) end c.args.work.now.verdict)
    c.self.view_is
    (λ pages a end item ends shown. same c.self.inside.settings pages a (history own) end (λ key. (c.self.invariant.places key).place) item ends shown))
    c.finish_adds.ensures.same

pub returns-clause-fresh : goal.returns-clause-fresh
returns-clause-fresh c =
    IfOk-weaker c.finish_adds.result _ _
    (λ adds fresh.
    subst (λ (core : Core). are_new (history core) adds ≡ true) c.self.view_is (fresh (history_of c.self.inside.events.items) (λ key. (c.self.invariant.places key).place)))
    c.finish_adds.ensures.fresh

pub returns-clause-valid : goal.returns-clause-valid
returns-clause-valid c =
    IfOk-weaker c.finish_adds.result _ _
    (λ adds valid spelled. valid c.self.inside.settings (history_of c.self.inside.events.items) (λ key. (c.self.invariant.places key).place) spelled)
    c.finish_adds.ensures.valid
