use Rattle.std.proofs.Common.{◌≡◌, true, ap, subst, ◌∙◌}
use Rattle.std.proofs.lemmas.Result.{IfOk-weaker}
use Rattle.std.specs.List.{AllByRecursion}
use Rattle.crawl_kinds.specs.declared.item.Item.{Item}
use Rattle.crawl_history.specs.History.{history_of}
use Rattle.crawl_history.specs.Places.{is_absent, place_of}
use Rattle.frontier_adds.specs.Shown.{KeepsPlaces}
use Rattle.frontier_memo.specs.Laws.{are_new}
use Rattle.frontier_core.specs.Core.{Core, history, seed_adds}
use Rattle.frontier_core.proofs.Seeded.{count_all}
use Rattle.frontier_core.proofs.frontier.Frontier.seed_adds.Goals as goal

pub returns-clause-same : goal.returns-clause-same
returns-clause-same c =
    let own : Core = record { settings = c.self.inside.settings; scope = c.self.inside.scope; events = c.self.inside.events.items; robots = c.self.inside.robots.entries } in
    let keeps : KeepsPlaces (history own) c.self.inside.memo.places = λ key. (c.self.invariant.places key).place in
    IfOk-weaker c.seed_adds.result _ _
    (λ adds same pages.
    subst (λ (core : Core). adds ≡ seed_adds core pages c.args.list.now) c.self.view_is
    (same c.self.inside.settings pages (history own) keeps ∙ ap (seed_adds own pages) c.as_slice.ensures))
    c.seed_adds.ensures.same

pub returns-clause-fresh : goal.returns-clause-fresh
returns-clause-fresh c =
    IfOk-weaker c.seed_adds.result _ _
    (λ adds fresh.
    subst (λ (core : Core). are_new (history core) adds ≡ true) c.self.view_is (fresh (history_of c.self.inside.events.items) (λ key. (c.self.invariant.places key).place)))
    c.seed_adds.ensures.fresh

pub returns-clause-absent : goal.returns-clause-absent
returns-clause-absent c =
    IfOk-weaker c.seed_adds.result _ _
    (λ adds absent.
    count_all (λ (i : Item). is_absent (place_of (history c.args.self.now) i.key)) adds
    (subst (λ (core : Core). AllByRecursion (λ (i : Item). is_absent (place_of (history core) i.key) ≡ true) adds) c.self.view_is
    (absent (history_of c.self.inside.events.items) (λ key. (c.self.invariant.places key).place))))
    c.seed_adds.ensures.absent

pub returns-clause-valid : goal.returns-clause-valid
returns-clause-valid c =
    IfOk-weaker c.seed_adds.result _ _
    (λ adds valid pages. valid c.self.inside.settings pages (history_of c.self.inside.events.items) (λ key. (c.self.invariant.places key).place))
    c.seed_adds.ensures.valid
