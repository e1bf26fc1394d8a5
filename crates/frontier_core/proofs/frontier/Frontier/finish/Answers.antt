use Rattle.std.proofs.Common.{◌≡◌, ◌+◌, ◌≤◌, List, [], ◌∷◌, ◌++◌, Err, IsErrAnd, length, refl, sym, ◌∙◌, ap, subst}
use Rattle.crawl_kinds.specs.declared.event.Event.{Event}
use Rattle.crawl_kinds.specs.declared.event.Event.TheVariants.{Finish}
use Rattle.crawl_kinds.specs.declared.item.Item.{Item}
use Rattle.crawl_kinds.specs.Event.{Finishing}
use Rattle.crawl_history.specs.History.{history_of}
use Rattle.crawl_history.specs.Places.{known_keys}
use Rattle.frontier_memo.specs.Fits.{Fits}
use Rattle.frontier_memo.specs.Outs.{OutsStand}
use Rattle.frontier_core.specs.Core.{Core, absent_count, history, known_count}
use Rattle.frontier_core.specs.Finishing.{finish_by, finish_event}
use Rattle.frontier_core.specs.Standing.{EndsWith}
use Rattle.frontier_core.specs.declared.stop.FrontierStop.{FrontierStop}
use Rattle.frontier_core.proofs.Finishes.{finish_counted, finish_fits, finish_step}
use Rattle.frontier_core.proofs.Standing.{stands_ended}
use Rattle.frontier_core.proofs.Valid.{finish_valid, held_add}
use Rattle.journal_valid.specs.Items.{IsAdd}
use Rattle.journal_valid.specs.Valid.{IsEvent}
use Rattle.frontier_core.proofs.frontier.Frontier.finish.Goals as goal

pub returns-in_err-room_for-clause-full : goal.returns-in_err-room_for-clause-full
returns-in_err-room_for-clause-full c known adds e =
    let kept = subst (λ r. IsErrAnd r (λ (s : FrontierStop). s ≡ c.in_err-room_for.field-0.0)) e c.from_residual-in_err-room_for.ensures.1 in
    let told = c.in_err-room_for.ensures.full known adds (ap Err (sym kept)) in
    record {
      of_known = told.0;
      of_adds = λ pages a items shown.
          told.1
          ∙ ap (absent_count c.args.self.now)
          (c.as_slice.ensures ∙ c.in_ok-adds.ensures.same pages a (finish_by c.args.self.now c.args.emitted c.args.end c.args.now items) refl refl shown);
      more = told.2;
    }

pub end-requires : goal.end-requires
end-requires c =
    let core : Core = c.args.self.now in
    let own : Finishing = finish_by core c.args.emitted c.args.end c.args.now c.in_ok-adds.adds in
    let made : c.in_ok-copy.field-0 ≡ finish_event own =
    c.in_ok-copy.ensures ∙ ap (λ t. Finish t c.args.emitted.caller c.args.emitted.ticket c.args.emitted.work.item c.args.end c.in_ok-adds.adds) c.next_time-time.ensures in
    let outs : OutsStand (history core) = subst (λ (core : Core). OutsStand (history core)) c.self.view_is c.self.invariant.outs in
    subst (Fits (history core)) (sym made) (finish_fits core c.args.emitted c.requires.held outs c.args.end c.args.now c.in_ok-adds.adds c.in_ok-adds.ensures.fresh)

pub returns-clause-ended : goal.returns-clause-ended
returns-clause-ended c =
    let core : Core = c.args.self.now in
    let own : Finishing = finish_by core c.args.emitted c.args.end c.args.now c.in_ok-adds.adds in
    let timed : Finish c.next_time-time.result c.args.emitted.caller c.args.emitted.ticket c.args.emitted.work.item c.args.end c.in_ok-adds.adds ≡ finish_event own =
    ap (λ t. Finish t c.args.emitted.caller c.args.emitted.ticket c.args.emitted.work.item c.args.end c.in_ok-adds.adds) c.next_time-time.ensures in
    let outs : OutsStand (history core) = subst (λ (core : Core). OutsStand (history core)) c.self.view_is c.self.invariant.outs in
    record {
      event = timed;
      events = c.in_ok-end.ensures.ok.events ∙ ap (λ (e : Event). core.events ++ e ∷ []) c.in_ok-copy.ensures;
      settings = c.in_ok-end.ensures.ok.settings;
      scope = c.in_ok-end.ensures.ok.scope;
      fits = subst (Fits (history core)) (sym timed) (finish_fits core c.args.emitted c.requires.held outs c.args.end c.args.now c.in_ok-adds.adds c.in_ok-adds.ensures.fresh);
    }

pub returns-clause-finished : goal.returns-clause-finished
returns-clause-finished c pages a shown =
    let core : Core = c.args.self.now in
    let own : Finishing = finish_by core c.args.emitted c.args.end c.args.now c.in_ok-adds.adds in
    let made : c.in_ok-copy.field-0 ≡ finish_event own =
    c.in_ok-copy.ensures ∙ ap (λ t. Finish t c.args.emitted.caller c.args.emitted.ticket c.args.emitted.work.item c.args.end c.in_ok-adds.adds) c.next_time-time.ensures in
    let outs : OutsStand (history core) = subst (λ (core : Core). OutsStand (history core)) c.self.view_is c.self.invariant.outs in
    let same = c.in_ok-adds.ensures.same pages a own refl refl shown.found in
    let room : known_count core + absent_count core c.in_ok-adds.adds ≤ core.settings.max_keys =
    subst (λ (items : List Item). known_count core + absent_count core items ≤ core.settings.max_keys) c.as_slice.ensures c.in_ok-room_for.ensures.ok in
    let ends : EndsWith core c.end.new.self (finish_event own) c.args.emitted.work.item.class c.in_ok-kept.kept =
    subst (λ (e : Event). EndsWith core c.end.new.self e c.args.emitted.work.item.class c.in_ok-kept.kept) made
    (subst (λ class. EndsWith core c.end.new.self c.in_ok-copy.field-0 class c.in_ok-kept.kept) c.in_ok-class.ensures c.in_ok-end.ensures.ok) in
    record {
      adds = same;
      step = finish_step core c.args.emitted c.requires.held outs c.args.end c.args.now c.in_ok-adds.adds c.in_ok-adds.ensures.fresh pages a same
          (λ spelled. c.valid_is_computed.ensures.adds c.in_ok-adds.adds (c.in_ok-adds.ensures.valid spelled)) room;
      stands = stands_ended pages a core c.end.new.self own (finish_event own) c.in_ok-kept.kept refl refl
          (c.in_ok-kept.ensures pages a core own (ap (λ (core : Core). core.settings.agent) (sym c.self.view_is)) refl (sym c.next_time-time.ensures) refl shown.text) ends;
    }

pub returns-clause-room : goal.returns-clause-room
returns-clause-room c =
    let core : Core = c.args.self.now in
    let own : Finishing = finish_by core c.args.emitted c.args.end c.args.now c.in_ok-adds.adds in
    let made : c.in_ok-copy.field-0 ≡ finish_event own =
    c.in_ok-copy.ensures ∙ ap (λ t. Finish t c.args.emitted.caller c.args.emitted.ticket c.args.emitted.work.item c.args.end c.in_ok-adds.adds) c.next_time-time.ensures in
    let outs : OutsStand (history core) = subst (λ (core : Core). OutsStand (history core)) c.self.view_is c.self.invariant.outs in
    let grows : known_count c.end.new.self ≡ known_count core + absent_count core c.in_ok-adds.adds =
    ap (λ (events : List Event). length (known_keys (history_of events))) (c.in_ok-end.ensures.ok.events ∙ ap (λ (e : Event). core.events ++ e ∷ []) made)
    ∙ finish_counted core c.args.emitted c.requires.held outs c.args.end c.args.now c.in_ok-adds.adds c.in_ok-adds.ensures.fresh in
    subst (λ n. n ≤ core.settings.max_keys) (sym grows)
    (subst (λ (items : List Item). known_count core + absent_count core items ≤ core.settings.max_keys) c.as_slice.ensures c.in_ok-room_for.ensures.ok)

pub returns-clause-valid : goal.returns-clause-valid
returns-clause-valid c valid ends =
    let core : Core = c.args.self.now in
    let own : Finishing = finish_by core c.args.emitted c.args.end c.args.now c.in_ok-adds.adds in
    let timed : Finish c.next_time-time.result c.args.emitted.caller c.args.emitted.ticket c.args.emitted.work.item c.args.end c.in_ok-adds.adds ≡ finish_event own =
    ap (λ t. Finish t c.args.emitted.caller c.args.emitted.ticket c.args.emitted.work.item c.args.end c.in_ok-adds.adds) c.next_time-time.ensures in
    let outs : OutsStand (history core) = subst (λ (core : Core). OutsStand (history core)) c.self.view_is c.self.invariant.outs in
    let add : IsAdd c.args.emitted.work.item = held_add core valid c.args.emitted c.requires.held outs in
    subst IsEvent (sym timed)
    (finish_valid core valid c.args.emitted c.args.end c.args.now c.in_ok-adds.adds c.requires.held ends (c.in_ok-adds.ensures.valid (c.valid_is_computed.ensures.add c.args.emitted.work.item add)))
