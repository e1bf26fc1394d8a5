use Rattle.std.proofs.Common.{◌≡◌, ◌∙◌, ℕ, Ok, Err, ap, subst, sym}
use Rattle.crawl_facts.specs.Pages.{place_after}
use Rattle.frontier_core.specs.Core.{Core}
use Rattle.open_crawl.specs.declared.opening.OpenCrawl.{OpenCrawl}
use Rattle.visit_laws.specs.Laws.{IsOnward}
use Rattle.visit_spec.specs.Crawled.{IsOver}
use Rattle.polite_crawl.proofs.Between.{going_first, going_on, going_refused, going_same, grown_more}
use Rattle.polite_crawl.proofs.Saturation.{cited_fits}
use Rattle.polite_crawl.specs.Turns.{IsIdle, IsUnwritten}
use Rattle.polite_crawl.specs.declared.turn.Turn.{Turn}
use Rattle.polite_crawl.specs.declared.turn.Turn.TheVariants as turned
use Rattle.polite_crawl.specs.declared.why.Why.{Why}
use Rattle.polite_crawl.specs.declared.why.Why.TheVariants as stopped
use Rattle.polite_crawl.proofs.crawling.crawl.Goals as goal

unwritten_full : (why : Why) (known adds : ℕ) → why ≡ stopped.Full known adds → IsUnwritten (Err why)
unwritten_full why known adds is = subst (λ (w : Why). IsUnwritten (Err w)) (sym is) tt

idle_over : (turn : Turn) → turn ≡ turned.Over → IsIdle (Ok turn)
idle_over turn is = subst (λ (t : Turn). IsIdle (Ok t)) (sym is) tt

pub loop-init : goal.loop-init
loop-init g c =
    let old : Core = c.args.crawl.now.frontier in
    going_first g.V.Volume g.W.Sink g.L.Link g.C.Clock.gives c.args.clock.now c.args.crawl.now c.args.volume.now c.args.out.now c.args.link.now
    c.visits_go_on.ensures c.cut_back.new.volume c.place_after.result
    c.requires.valid (c.place_after.ensures ∙ ap place_after (c.cited_end.ensures ∙ cited_fits old.events c.requires.valid))
    c.in-Ok.ensures.cut c.in-Ok.ensures.others c.in-Ok.ensures.rests c.cut_back.ensures.tells c.cut_back.ensures.cause.later

pub returns-clause-done : goal.returns-clause-done
returns-clause-done g c told shown within held was =
    c.loop.invariant.keeps held (record { tells = told; shown = shown; within = within; rests = was })

pub returns-in-Over-clause-done : goal.returns-in-Over-clause-done
returns-in-Over-clause-done g c told shown within held was =
    let is : c.in-Ok-take_turn.turn ≡ turned.Over = cc in
    (going_same g.V.Volume g.W.Sink g.L.Link g.C.Clock.gives c.args.clock.now c.args.crawl.now c.args.volume.now c.args.out.now c.args.link.now c.loop.crawl c.loop.volume c.loop.out c.loop.link c.loop.invariant
    c.take_turn.new.crawl c.take_turn.new.volume c.take_turn.new.out c.take_turn.new.link (c.in-Ok-take_turn.ensures.idle (idle_over c.in-Ok-take_turn.turn is))).keeps held (record { tells = told; shown = shown; within = within; rests = was })

pub returns-in-Over-clause-over : goal.returns-in-Over-clause-over
returns-in-Over-clause-over g c e =
    let is : c.in-Ok-take_turn.turn ≡ turned.Over = cc in
    subst (λ (x : OpenCrawl). IsOver (g.C.Clock.gives c.args.clock.now) x.frontier) (sym (c.in-Ok-take_turn.ensures.idle (idle_over c.in-Ok-take_turn.turn is)).0) (c.in-Ok-take_turn.ensures.over (cc))

pub returns-in-Over-clause-grown : goal.returns-in-Over-clause-grown
returns-in-Over-clause-grown g c =
    grown_more g.V.Volume g.W.Sink g.L.Link g.C.Clock.gives c.args.clock.now c.args.crawl.now c.args.volume.now c.args.out.now c.args.link.now c.loop.crawl c.loop.volume c.loop.out c.loop.link c.loop.invariant
    c.take_turn.new.out c.take_turn.ensures.grown

pub returns-in-Err-take_turn-clause-grown : goal.returns-in-Err-take_turn-clause-grown
returns-in-Err-take_turn-clause-grown g c =
    grown_more g.V.Volume g.W.Sink g.L.Link g.C.Clock.gives c.args.clock.now c.args.crawl.now c.args.volume.now c.args.out.now c.args.link.now c.loop.crawl c.loop.volume c.loop.out c.loop.link c.loop.invariant
    c.take_turn.new.out c.take_turn.ensures.grown

pub returns-in-Err-take_turn-clause-full : goal.returns-in-Err-take_turn-clause-full
returns-in-Err-take_turn-clause-full g c known adds e told shown within held was =
    let is : c.in-Err-take_turn.why ≡ stopped.Full known adds = cc in
    let next : IsOnward g.L.Link c.loop.link c.take_turn.new.link = record {
      later = c.take_turn.ensures.later_link;
      tells = c.take_turn.ensures.tells.2;
      shut = c.in-Err-take_turn.ensures.shut (λ wrong. cc);
    } in
    going_refused g.V.Volume g.W.Sink g.L.Link g.C.Clock.gives c.args.clock.now c.args.crawl.now c.args.volume.now c.args.out.now c.args.link.now c.loop.crawl c.loop.volume c.loop.out c.loop.link c.loop.invariant
    c.visits_go_on.ensures c.take_turn.new.link next c.take_turn.new.crawl c.take_turn.new.volume c.take_turn.new.out known adds held (record { tells = told; shown = shown; within = within; rests = was })
    (c.in-Err-take_turn.ensures.unwritten (unwritten_full c.in-Err-take_turn.why known adds is)) (c.in-Err-take_turn.ensures.full known adds (cc))

pub loop-preserved : goal.loop-preserved
loop-preserved g c =
    let next : IsOnward g.L.Link c.loop.link c.take_turn.new.link = record {
      later = c.take_turn.ensures.later_link;
      tells = c.take_turn.ensures.tells.2;
      shut = c.in-Ok-take_turn.ensures.shut (λ wrong. cc);
    } in
    going_on g.V.Volume g.W.Sink g.L.Link g.C.Clock.gives c.args.clock.now c.args.crawl.now c.args.volume.now c.args.out.now c.args.link.now c.loop.crawl c.loop.volume c.loop.out c.loop.link c.loop.invariant
    c.visits_go_on.ensures c.take_turn.new.link next c.in-Ok-take_turn.turn c.take_turn.new.crawl c.take_turn.new.volume c.take_turn.new.out
    c.in-Ok-take_turn.ensures.idle c.in-Ok-take_turn.ensures.worked c.in-Ok-take_turn.ensures.valid c.in-Ok-take_turn.ensures.settings
    c.take_turn.ensures.grown c.take_turn.ensures.tells.0 c.take_turn.ensures.tells.1 c.take_turn.ensures.later.0 c.take_turn.ensures.later.1
