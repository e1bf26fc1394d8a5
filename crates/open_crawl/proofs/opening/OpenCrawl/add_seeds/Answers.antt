use Rattle.std.proofs.Common.{◌∷◌, [], List, subst}
use Rattle.crawl_kinds.specs.declared.event.Event.{Event}
use Rattle.open_crawl.specs.Opening.{AddsSeeds}
use Rattle.open_crawl.proofs.Runs.{untouched_leaves, seeded_leaves}
use Rattle.open_crawl.proofs.opening.OpenCrawl.add_seeds.Goals as goal

pub returns-in-Err-clause-any_moment : goal.returns-in-Err-clause-any_moment
returns-in-Err-clause-any_moment g c events own =
    let core = c.args.self.now.frontier in
    untouched_leaves g.V.Volume core.settings core.scope events c.args.list.now c.args.now c.args.volume.now g.met.V.Volume.only_now
    (c.a_journal_at_rest.ensures.settled c.args.self.now.journal c.args.volume.now events own.journal)

pub returns-in-Ok-append-clause-any_moment : goal.returns-in-Ok-append-clause-any_moment
returns-in-Ok-append-clause-any_moment g c events own =
    let core = c.args.self.now.frontier in
    let added = c.in-Ok.ensures.added in
    seeded_leaves g.V.Volume core.settings core.scope events c.args.list.now c.args.now c.args.volume.now c.append.new.volume added.0
    (subst (λ (es : List Event). AddsSeeds core.settings core.scope es c.args.list.now c.args.now added.0) own.core added.1)
    (c.in-Ok-append.ensures.any_moment events (added.0 ∷ []) own.journal added.3)

pub returns-clause-any_moment : goal.returns-clause-any_moment
returns-clause-any_moment g c events own =
    let core = c.args.self.now.frontier in
    let added = c.in-Ok.ensures.added in
    seeded_leaves g.V.Volume core.settings core.scope events c.args.list.now c.args.now c.args.volume.now c.append.new.volume added.0
    (subst (λ (es : List Event). AddsSeeds core.settings core.scope es c.args.list.now c.args.now added.0) own.core added.1)
    (c.in-Err-append.ensures.any_moment events (added.0 ∷ []) own.journal added.3)
