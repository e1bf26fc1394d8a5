-- The end of an item is one step of a legal history.
use Rattle.std.proofs.Common.{◌≡◌, ℕ, ◌+◌, ◌≤◌, ◌^◌, true, false, ◌==◌, List, [], ◌∷◌, ◌++◌, length, refl, sym, ap, subst, Some, None, arith, nat_lt, nat_le}
use Rattle.std.specs.Prelude.{◌&&◌, not, filter, option_map, if◌then◌else◌}
use Rattle.std.specs.List.{list_all, AllByRecursion}
use Rattle.std.proofs.lemmas.Bool.{le-leb}
use Rattle.crawl_kinds.specs.declared.event.TheConstants.{MAX_MS}
use Rattle.crawl_kinds.specs.declared.event.End.{End}
use Rattle.crawl_kinds.specs.declared.event.Event.{Event}
use Rattle.crawl_kinds.specs.declared.event.Event.TheVariants.{Session, Seeds, Emit, Finish}
use Rattle.crawl_kinds.specs.declared.item.Item.{Item}
use Rattle.crawl_kinds.specs.Event.{emit_of, finish_of, Emission, Finishing}
use Rattle.crawl_history.specs.Adds.{finish_adds}
use Rattle.crawl_history.specs.Facts.{Archive}
use Rattle.crawl_history.specs.History.{History, is_session, last_time, session_finishes, with_event}
use Rattle.crawl_history.specs.Steps.{FinishesOne, Legal, Permits, Step}
use Rattle.crawl_history.specs.Tickets.{emits_out, is_ended}
use Rattle.history_steps.specs.ScansStep.{ends_emit, out_by}
use Rattle.history_steps.proofs.Sessions.{emits_out-with_event}
use Rattle.core_facts.specs.CoreFacts.{Pages}
use Rattle.core_facts.specs.ValidEvent.{is_add, is_end, is_event, is_item, is_ticket}
use Rattle.frontier_memo.specs.Fits.{Fits}
use Rattle.frontier_memo.specs.Laws.{are_new}
use Rattle.frontier_memo.specs.Outs.{OutStands, OutsStand}
use Rattle.frontier_memo.proofs.Counting.{keys_more}
use Rattle.frontier_memo.proofs.Lists.{all-append, all-filter, found}
use Rattle.frontier_memo.proofs.Telling.{new_adds_fit}
use Rattle.frontier_core.specs.Core as own
use Rattle.frontier_core.specs.Core.{Core, absent_count, facts, history, known_count, next_time}
use Rattle.frontier_core.specs.Emitting.{emission_of, IsHeld}
use Rattle.frontier_core.specs.Finishing.{finish_by, finish_event, MayEnd}
use Rattle.frontier_core.specs.declared.emitted.Emitted.{Emitted}
use Rattle.history_steps.proofs.Legal.{in_time, legal_keeps}
use Rattle.frontier_core.proofs.Emits.{added_add, and_both, and_left, and_right, or_left, some_event}

-- ---- what is out was made by one of the callers, under a ticket of 64 bits

abbrev IsNumbered : Emission → Type 0
IsNumbered m = (nat_le m.caller 31 ≡ true) × (nat_lt m.ticket (2 ^ 64) ≡ true)

numbered_more : (h : History) (e : Event) → is_event e ≡ true → AllByRecursion IsNumbered (emits_out h) → AllByRecursion IsNumbered (emits_out (with_event h e))
numbered_more h e valid all = subst (AllByRecursion IsNumbered) (sym (emits_out-with_event h e)) (by_event e valid)
  where
    by_event : (e : Event) → is_event e ≡ true → AllByRecursion IsNumbered (if is_session e then [] else filter (λ m. not (ends_emit (finish_of e) m)) (emits_out h) ++ out_by h (emit_of e))
    by_event (Session time job format) valid = tt
    by_event (Seeds time list adds) valid =
        all-append IsNumbered (filter (λ m. not (ends_emit None m)) (emits_out h)) [] (all-filter IsNumbered (λ m. not (ends_emit None m)) (emits_out h) all) tt
    by_event (Emit time caller ticket verdict item) valid =
        let numbers : ((nat_le time MAX_MS && nat_le caller 31) && nat_lt ticket (2 ^ 64)) ≡ true = and_left (is_ticket time caller ticket) (is_item item) valid in
        let m : Emission = record { time = time; caller = caller; ticket = ticket; verdict = verdict; item = item } in
        let own : IsNumbered m = (
          and_right (nat_le time MAX_MS) (nat_le caller 31) (and_left (nat_le time MAX_MS && nat_le caller 31) (nat_lt ticket (2 ^ 64)) numbers),
          and_right (nat_le time MAX_MS && nat_le caller 31) (nat_lt ticket (2 ^ 64)) numbers,
        ) in
        all-append IsNumbered (filter (λ m. not (ends_emit None m)) (emits_out h)) (out_by h (Some m))
        (all-filter IsNumbered (λ m. not (ends_emit None m)) (emits_out h) all)
        (all-filter IsNumbered (λ m. not (is_ended (session_finishes h) m)) (m ∷ []) (own, tt))
    by_event (Finish time caller ticket item end adds) valid =
        all-append IsNumbered (filter (λ m. not (ends_emit (finish_of (Finish time caller ticket item end adds)) m)) (emits_out h)) []
        (all-filter IsNumbered (λ m. not (ends_emit (finish_of (Finish time caller ticket item end adds)) m)) (emits_out h) all) tt

out_numbered : (pages : Pages) (a : Archive) (core : Core) → Legal (facts core pages) a core.events → AllByRecursion IsNumbered (emits_out (history core))
out_numbered pages a core legal =
    legal_keeps (facts core pages) a (λ h. AllByRecursion IsNumbered (emits_out h)) (λ h e before step. numbered_more h e step.valid before) core.events tt legal

-- ---- what was handed out

module _ (core : Core) (one : Emitted) (held : IsHeld core one) where
  -- what holds of each that is out
  of_held : (P : Emission → Type 0) → AllByRecursion P (emits_out (history core)) → P (emission_of one)
  of_held P all = (found P (λ m. m.ticket == one.ticket) (emits_out (history core)) (emission_of one) all held).0

  module _ (outs : OutsStand (history core)) (end : End) (now : ℕ) (adds : List Item) (fresh : are_new (history core) adds ≡ true) where
    -- its finish with this end and these adds
    abbrev pub c : Finishing
    c = finish_by core one end now adds

    stands_out : OutStands (history core) (emission_of one)
    stands_out = of_held (OutStands (history core)) outs.each

    pub finish_fits : Fits (history core) (finish_event c)
    finish_fits = record {
      kind = record { out = ap (option_map (λ m. m.item)) held; waits = stands_out.waits };
      adds = new_adds_fit (history core) (finish_event c) stands_out.waits fresh;
    }

    pub finish_counted : known_count (own.with_event core (finish_event c)) ≡ known_count core + absent_count core adds
    finish_counted = keys_more core.events (finish_event c) stands_out.waits fresh

    module _ (pages : Pages) (a : Archive) (same : adds ≡ finish_adds (facts core pages) a (history core) c one.work.verdict) where
      -- the finish ends the emit
      permits : MayEnd pages a core one c → Permits (facts core pages) a (history core) (finish_event c)
      permits may =
          subst (FinishesOne (facts core pages) a (history core) c) (sym held)
          (record { caller = refl; item = refl; suits = may.suits; adds = same; spot = may.spot })

      pub finish_step :
          (is_add one.work.item ≡ true → list_all is_add adds ≡ true) → known_count core + absent_count core adds ≤ core.settings.max_keys
          → Legal (facts core pages) a core.events → MayEnd pages a core one c → Step (facts core pages) a (history core) (finish_event c)
      finish_step spelled room legal may =
          let earlier : last_time (history core) ≤ MAX_MS = in_time (facts core pages) a core.events legal in
          let later : next_time core now ≤ MAX_MS = omega (arith, earlier) in
          let numbers = of_held IsNumbered (out_numbered pages a core legal) in
          let item : is_add one.work.item ≡ true = added_add pages a core legal one.work.item.key one.work.item stands_out.added in
          record {
            opened = or_left (nat_lt 0 (0 + length core.events)) false (some_event core.events one.work.item.key one.work.item stands_out.added);
            later = omega arith;
            in_time = later;
            valid = and_both _ (list_all is_add adds)
                (and_both _ (is_end end) (and_both _ (is_item one.work.item) (and_both _ (nat_lt one.ticket (2 ^ 64)) (and_both (nat_le (next_time core now) MAX_MS) (nat_le one.caller 31) (le-leb (next_time core now) MAX_MS later) numbers.0) numbers.1) (and_left (is_item one.work.item) _ item)) may.valid)
                (spelled item);
            permits = permits may;
            room = subst (λ n. n ≤ core.settings.max_keys) (sym finish_counted) room;
          }
