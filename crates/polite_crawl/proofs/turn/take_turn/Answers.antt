use Rattle.std.proofs.Common.{◌≡◌, ◌∙◌, ap, subst}
use Rattle.crawl_kinds.specs.declared.settings.Settings.{Settings}
use Rattle.crawl_kinds.specs.declared.snapshot.Edge.{Edge}
use Rattle.crawl_facts.specs.Pages.{place_after}
use Rattle.frontier_core.specs.Core.{Core, facts, history, next_time}
use Rattle.frontier_core.specs.Emitting.{Answers, IsOut, IsValidAnswer, Moves}
use Rattle.frontier_core.specs.declared.emitted.Answer.{Answer}
use Rattle.frontier_core.specs.declared.emitted.Answer.TheVariants as answered
use Rattle.frontier_core.specs.declared.emitted.Emitted.{Emitted}
use Rattle.process_chains.specs.Ends.{World, world}
use Rattle.visit_records.specs.declared.keeping.Prepared.{Prepared}
use Rattle.visit_spec.specs.Crawled.{next_place}
use Rattle.polite_crawl.specs.Steps.{Readies, Refuses}
use Rattle.polite_crawl.proofs.Saturation.{cited_fits}
use Rattle.polite_crawl.proofs.Turning.{events_valid, keeps, out_last, over_by, refused, visit}
use Rattle.polite_crawl.proofs.turn.take_turn.Goals as goal

pub returns-in-Ok-Over-clause-over : goal.returns-in-Ok-Over-clause-over
returns-in-Ok-Over-clause-over g c e =
    let old : Core = c.args.crawl.now.frontier in
    let is : c.in-Ok-Over.field-0 ≡ answered.Over = cc in
    record {
      moment = c.now.result;
      given = c.now.ensures;
      over = λ pages a stands. over_by (facts old pages) a (history old) (next_time old c.now.result)
          (subst (λ (x : Answer). Answers pages a old c.now.result x) is (c.in-Ok-Over.ensures.answers pages a stands));
    }

pub returns-in-Ok-Empty-clause-empty : goal.returns-in-Ok-Empty-clause-empty
returns-in-Ok-Empty-clause-empty g c next e =
    let old : Core = c.args.crawl.now.frontier in
    let is : c.in-Ok-Empty.field-0 ≡ answered.Empty next = cc in
    record {
      moment = c.now.result;
      given = c.now.ensures;
      waits = λ pages a stands. subst (λ (x : Answer). Answers pages a old c.now.result x) is (c.in-Ok-Empty.ensures.answers pages a stands);
    }

pub returns-in-Err-Full-clause-full : goal.returns-in-Err-Full-clause-full
returns-in-Err-Full-clause-full g c known adds e =
    let old : Core = c.args.crawl.now.frontier in
    let out : Core = c.emit.new.self in
    let one : Emitted = c.in-Ok-Work.emitted in
    let is : c.in-Ok-Work.field-0 ≡ answered.Work one = cc in
    let emits : IsOut old out 0 c.now.result one = subst (λ (x : Answer). Moves old out 0 c.now.result x) is c.in-Ok-Work.ensures.moves in
    let placed : c.place_after-place.result ≡ next_place old = c.place_after-place.ensures ∙ ap place_after (c.cited_end.ensures ∙ cited_fits old.events c.requires.valid) in
    let found : Refuses (world g.L.Link (g.C.Clock.gives c.args.clock.now) out.settings c.args.link.now c.work.new.link) out one c.place_after-place.result
    (g.L.Link.exchanges c.args.link.now) (g.L.Link.exchanges c.work.new.link) known adds = c.in-Err-Full.ensures.full known adds (cc) in
    refused (world g.L.Link (g.C.Clock.gives c.args.clock.now) old.settings c.args.link.now c.work.new.link) old out one c.now.result c.place_after-place.result
    (g.L.Link.exchanges c.args.link.now) (g.L.Link.exchanges c.work.new.link) c.now.ensures emits placed known adds
    (subst (λ (s : Settings). Refuses (world g.L.Link (g.C.Clock.gives c.args.clock.now) s c.args.link.now c.work.new.link) out one c.place_after-place.result
    (g.L.Link.exchanges c.args.link.now) (g.L.Link.exchanges c.work.new.link) known adds) (ap (λ (core : Core). core.settings) emits.kept) found)

pub returns-in-Ok-keep-clause-worked : goal.returns-in-Ok-keep-clause-worked
returns-in-Ok-keep-clause-worked g c e told shown long held was =
    let old : Core = c.args.crawl.now.frontier in
    let out : Core = c.emit.new.self in
    let new : Core = c.work.new.frontier in
    let one : Emitted = c.in-Ok-Work.emitted in
    let p : Prepared = c.in-Ok.own in
    let place : Edge = c.place_after-place.result in
    let is : c.in-Ok-Work.field-0 ≡ answered.Work one = cc in
    let emits : IsOut old out 0 c.now.result one = subst (λ (x : Answer). Moves old out 0 c.now.result x) is c.in-Ok-Work.ensures.moves in
    let placed : place ≡ next_place old = c.place_after-place.ensures ∙ ap place_after (c.cited_end.ensures ∙ cited_fits old.events c.requires.valid) in
    let w : World = world g.L.Link (g.C.Clock.gives c.args.clock.now) old.settings c.args.link.now c.work.new.link in
    let r : Readies w out new one place (g.L.Link.exchanges c.args.link.now) (g.L.Link.exchanges c.work.new.link) p =
    subst (λ (s : Settings). Readies (world g.L.Link (g.C.Clock.gives c.args.clock.now) s c.args.link.now c.work.new.link) out new one place
    (g.L.Link.exchanges c.args.link.now) (g.L.Link.exchanges c.work.new.link) p) (ap (λ (core : Core). core.settings) emits.kept) c.in-Ok.ensures.ready in (
      visit w old out one c.now.result place (g.L.Link.exchanges c.args.link.now) (g.L.Link.exchanges c.work.new.link) c.now.ensures emits placed new p r,
      keeps w old out one c.now.result place (g.L.Link.exchanges c.args.link.now) (g.L.Link.exchanges c.work.new.link) c.now.ensures emits placed new p r
          g.V.Volume held c.args.volume.now c.keep.new.volume c.keep.new.journal (g.W.Sink.written c.args.out.now) (g.W.Sink.written c.keep.new.out)
          (c.visit_goes_on.ensures c.args.clock.now old.settings c.args.link.now c.work.new.link old new)
          (λ pages a stands. subst (λ (x : Answer). Answers pages a old c.now.result x) is (c.in-Ok-Work.ensures.answers pages a stands))
          c.in-Ok-Work.ensures.stands long
          (λ spelled ends. c.in-Ok-keep.ensures.kept told held _ was spelled ends)
          (c.in-Ok-keep.ensures.line shown),
    )

pub returns-in-Ok-keep-clause-valid : goal.returns-in-Ok-keep-clause-valid
returns-in-Ok-keep-clause-valid g c e =
    let old : Core = c.args.crawl.now.frontier in
    let out : Core = c.emit.new.self in
    let new : Core = c.work.new.frontier in
    let one : Emitted = c.in-Ok-Work.emitted in
    let is : c.in-Ok-Work.field-0 ≡ answered.Work one = cc in
    let emits : IsOut old out 0 c.now.result one = subst (λ (x : Answer). Moves old out 0 c.now.result x) is c.in-Ok-Work.ensures.moves in
    let placed : c.place_after-place.result ≡ next_place old = c.place_after-place.ensures ∙ ap place_after (c.cited_end.ensures ∙ cited_fits old.events c.requires.valid) in
    let last = out_last old out c.now.result one emits c.requires.valid (subst IsValidAnswer is (c.in-Ok-Work.ensures.valid c.requires.valid)) in
    events_valid (world g.L.Link (g.C.Clock.gives c.args.clock.now) out.settings c.args.link.now c.work.new.link) old out one c.now.result c.place_after-place.result
    (g.L.Link.exchanges c.args.link.now) (g.L.Link.exchanges c.work.new.link) c.now.ensures emits placed new c.in-Ok.own c.in-Ok.ensures.ready last.valid
