use Rattle.std.proofs.Common.{◌≡◌, ◌∷◌, [], List, length, drop, ◌∙◌, ap, sym, subst}
use Rattle.crawl_kinds.specs.declared.event.Event.{Event}
use Rattle.frontier_core.specs.Answers.{IsFull, IsSeeded}
use Rattle.frontier_core.specs.Core.{Core}
use Rattle.open_crawl.specs.Opening.{FitsBlock}
use Rattle.open_crawl.proofs.Begun.{behind, seeded_in_time, seeds_fit}
use Rattle.open_crawl.proofs.Firsts.{seeded_stands}
use Rattle.open_crawl.proofs.begin.add_seeds.Goals as goal

pub returns-in-Err-Full-clause-full : goal.returns-in-Err-Full-clause-full
returns-in-Err-Full-clause-full c known adds e =
    let full : IsFull c.args.frontier.now c.args.list.now known adds = c.in-Err-Full.ensures.full known adds (cc) in
    record { of_known = full.of_known; of_adds = full.of_adds; more = full.more }

pub block_from-requires-clause-fits : goal.block_from-requires-clause-fits
block_from-requires-clause-fits c =
    let old : Core = c.args.frontier.now in
    let own : IsSeeded old c.seeds.new.self c.args.list.now c.args.now c.in-Ok.field-0 = c.in-Ok.ensures.ok in
    let one : drop (length c.events-before.result.now) c.events.result.now ≡ c.in-Ok.field-0 ∷ [] =
    behind old.events c.events.result.now (c.in-Ok.field-0 ∷ []) (length c.events-before.result.now) (ap (λ (l : List Event). length l) c.events-before.ensures)
    (c.events.ensures ∙ ap (λ (core : Core). core.events) own.kept) in
    subst FitsBlock (sym one)
    (seeds_fit c.items_are_valid.ensures old.settings old.scope old.events c.args.list.now c.args.now c.in-Ok.field-0 c.requires.forms own.event c.requires.in_time c.requires.few)

pub returns-in-Ok-block_from-clause-stands : goal.returns-in-Ok-block_from-clause-stands
returns-in-Ok-block_from-clause-stands c pages a stands =
    seeded_stands c.standing_laws.ensures c.args.frontier.now c.seeds.new.self c.args.list.now c.args.now _ c.in-Ok.ensures.ok pages a stands

pub returns-in-Ok-block_from-clause-in_time : goal.returns-in-Ok-block_from-clause-in_time
returns-in-Ok-block_from-clause-in_time c =
    seeded_in_time c.items_are_valid.ensures c.args.frontier.now c.seeds.new.self c.args.list.now c.args.now c.in-Ok.field-0 c.requires.forms c.in-Ok.ensures.ok c.requires.in_time

pub returns-in-Err-clause-stands : goal.returns-in-Err-clause-stands
returns-in-Err-clause-stands c pages a stands =
    seeded_stands c.standing_laws.ensures c.args.frontier.now c.seeds.new.self c.args.list.now c.args.now _ c.in-Ok.ensures.ok pages a stands

pub returns-in-Err-clause-in_time : goal.returns-in-Err-clause-in_time
returns-in-Err-clause-in_time c =
    seeded_in_time c.items_are_valid.ensures c.args.frontier.now c.seeds.new.self c.args.list.now c.args.now c.in-Ok.field-0 c.requires.forms c.in-Ok.ensures.ok c.requires.in_time
