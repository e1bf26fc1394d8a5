-- What the core makes after valid events is valid.
use Rattle.std.proofs.Common.{◌≡◌, ℕ, ◌<◌, ◌≤◌, ◌^◌, max, Bool, true, false, ◌==◌, List, [], ◌∷◌, Option, Some, None, arith}
use Rattle.std.specs.Prelude.{not, fold, filter_map, flat_map, IfSome, unwrap_or, if◌then◌else◌}
use Rattle.std.specs.List.{AllByRecursion, cons_option}
use Rattle.std.specs.Option.{option_or}
use Rattle.crawl_kinds.specs.declared.event.TheConstants.{MAX_MS}
use Rattle.crawl_kinds.specs.declared.event.End.{End}
use Rattle.crawl_kinds.specs.declared.event.Event.{Event}
use Rattle.crawl_kinds.specs.declared.event.Event.TheVariants.{Session, Seeds, Emit, Finish}
use Rattle.crawl_kinds.specs.declared.item.Item.{Item}
use Rattle.crawl_kinds.specs.Event.{adds_of, emit_of, time_of, Emission}
use Rattle.crawl_history.specs.History.{is_session, last_time, session_emits, session_events, session_finishes}
use Rattle.crawl_history.specs.Scans.{behind_last, after_last}
use Rattle.crawl_history.specs.Steps.{last_caller}
use Rattle.crawl_history.specs.Tickets.{emits_out, is_ended}
use Rattle.frontier_memo.specs.Fits.{last_added}
use Rattle.frontier_memo.specs.Outs.{OutStands, OutsStand}
use Rattle.frontier_memo.proofs.Lists.{all-append, all-filter, found}
use Rattle.frontier_core.specs.Core.{Core, history, next_time}
use Rattle.frontier_core.specs.Emitting.{emission_of, emit_event, IsHeld}
use Rattle.frontier_core.specs.Finishing.{finish_by, finish_event}
use Rattle.frontier_core.specs.declared.emitted.Emitted.{Emitted}
use Rattle.frontier_core.proofs.Added.{numbered, of_last}
use Rattle.journal_valid.specs.Ends.{IsEnd}
use Rattle.journal_valid.specs.Items.{IsAdd}
use Rattle.journal_valid.specs.Valid.{IsEvent}

-- ---- adds

added : (e : Event) → IsEvent e → AllByRecursion IsAdd (adds_of e)
added (Session time job format) valid = tt
added (Seeds time list adds) valid = valid.2
added (Emit time caller ticket verdict item) valid = tt
added (Finish time caller ticket item end adds) valid = valid.3

all_added : (events : List Event) → AllByRecursion IsEvent events → AllByRecursion IsAdd (flat_map adds_of events)
all_added [] valid = tt
all_added (e ∷ events) valid = all-append IsAdd (adds_of e) (flat_map adds_of events) (added e valid.0) (all_added events valid.1)

-- ---- times

in_time : (e : Event) → IsEvent e → time_of e ≤ MAX_MS
in_time (Session time job format) valid = valid.0
in_time (Seeds time list adds) valid = valid.0
in_time (Emit time caller ticket verdict item) valid = valid.0.in_time
in_time (Finish time caller ticket item end adds) valid = valid.0.in_time

times_fit : (t : ℕ) (events : List Event) → t ≤ MAX_MS → AllByRecursion IsEvent events → fold (λ t e. max t (time_of e)) t events ≤ MAX_MS
times_fit t [] fits valid = fits
times_fit t (e ∷ events) fits valid = times_fit (max t (time_of e)) events (omega (arith, fits, in_time e valid.0)) valid.1

-- ---- emits

abbrev IsEmission : Emission → Type 0
IsEmission m = IsEvent (Emit m.time m.caller m.ticket m.verdict m.item)

emission : (e : Event) → IsEvent e → IfSome (emit_of e) IsEmission
emission (Session time job format) valid = tt
emission (Seeds time list adds) valid = tt
emission (Emit time caller ticket verdict item) valid = valid
emission (Finish time caller ticket item end adds) valid = tt

emissions : (events : List Event) → AllByRecursion IsEvent events → AllByRecursion IsEmission (filter_map emit_of events)
emissions [] valid = tt
emissions (e ∷ events) valid = by_emit (emit_of e) (emission e valid.0) (emissions events valid.1)
  where
    by_emit : (o : Option Emission) → IfSome o IsEmission → AllByRecursion IsEmission (filter_map emit_of events) → AllByRecursion IsEmission (cons_option o (filter_map emit_of events))
    by_emit None own rest = rest
    by_emit (Some m) own rest = (own, rest)

behind : (p : Event → Bool) (events : List Event) → AllByRecursion IsEvent events → IfSome (behind_last p events) (AllByRecursion IsEvent)
behind p [] valid = tt
behind p (e ∷ events) valid = by_rest (behind_last p events) (p e) (behind p events valid.1)
  where
    by_rest : (o : Option (List Event)) (b : Bool) → IfSome o (AllByRecursion IsEvent) → IfSome (option_or o (if b then Some events else None)) (AllByRecursion IsEvent)
    by_rest (Some later) b all = all
    by_rest None true all = valid.1
    by_rest None false all = tt

after : (p : Event → Bool) (events : List Event) → AllByRecursion IsEvent events → AllByRecursion IsEvent (after_last p events)
after p events valid = by_last (behind_last p events) (behind p events valid)
  where
    by_last : (o : Option (List Event)) → IfSome o (AllByRecursion IsEvent) → AllByRecursion IsEvent (unwrap_or o events)
    by_last None all = valid
    by_last (Some later) all = all

module _ (core : Core) (valid : AllByRecursion IsEvent core.events) where
  -- the time of the next event ends with the year 9999
  next_in_time : (now : ℕ) → next_time core now ≤ MAX_MS
  next_in_time now =
      let earlier : last_time (history core) ≤ MAX_MS = times_fit 0 core.events (omega arith) valid in
      omega (arith, earlier)

  -- the item with which a key was added last is one that is added
  last_is_add : (key : List ℕ) (item : Item) → last_added (history core) key ≡ Some item → IsAdd item
  last_is_add key item last = of_last IsAdd key _ item (numbered IsAdd 1 (flat_map adds_of core.events) (all_added core.events valid)) last

  -- the emit of what is out is among the events
  held_valid : (one : Emitted) → IsHeld core one → IsEmission (emission_of one)
  held_valid one held =
      (found IsEmission (λ m. m.ticket == one.ticket) (emits_out (history core)) (emission_of one)
      (all-filter IsEmission (λ m. not (is_ended (session_finishes (history core)) m)) (session_emits (history core)) (emissions (session_events (history core)) (after is_session core.events valid)))
      held).0

  -- the item of what is out is one that is added
  pub held_add : (one : Emitted) → IsHeld core one → OutsStand (history core) → IsAdd one.work.item
  held_add one held outs =
      let stands : OutStands (history core) (emission_of one) = (found (OutStands (history core)) (λ m. m.ticket == one.ticket) (emits_out (history core)) (emission_of one) outs.each held).0 in
      last_is_add one.work.item.key one.work.item stands.added

  -- what goes out at the next time
  pub emit_valid :
      (one : Emitted) (now : ℕ) → one.work.at ≡ next_time core now → one.caller ≤ last_caller → one.ticket < 2 ^ 64
      → last_added (history core) one.work.item.key ≡ Some one.work.item → IsEvent (emit_event one)
  emit_valid one now at few fits last =
      let time = next_in_time now in (
        record { in_time = omega (arith, at, time); among_callers = few; in_range = fits },
        (last_is_add one.work.item.key one.work.item last).named,
      )

  -- the finish of what is out
  pub finish_valid : (one : Emitted) (end : End) (now : ℕ) (adds : List Item) → IsHeld core one → IsEnd end → AllByRecursion IsAdd adds → IsEvent (finish_event (finish_by core one end now adds))
  finish_valid one end now adds held ends all =
      let own = held_valid one held in (
        record { in_time = next_in_time now; among_callers = own.0.among_callers; in_range = own.0.in_range },
        own.1,
        ends,
        all,
      )
