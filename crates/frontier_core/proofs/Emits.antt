-- An emit is one step of a legal history.
use Rattle.std.proofs.Common.{◌≡◌, ℕ, ◌+◌, ◌<◌, ◌≤◌, max, ◌^◌, Bool, true, false, ◌||◌, List, [], ◌∷◌, ◌++◌, length, refl, sym, ◌∙◌, ap, ap₂, subst, Option, Some, None, arith, nat_lt, nat_le, add-zero}
use Rattle.std.specs.Prelude.{◌&&◌, not, filter_map, if◌then◌else◌}
use Rattle.std.specs.List.{list_all, AllByRecursion, cons_option}
use Rattle.std.specs.Ordering.{int_eq}
use Rattle.std.proofs.lemmas.Bool.{le-leb, lt-ltb, ltb-true}
use Rattle.std.proofs.lemmas.Slice.Eq.{bytes_eq-Decides}
use Rattle.crawl_kinds.specs.declared.event.TheConstants.{MAX_MS}
use Rattle.crawl_kinds.specs.declared.event.Event.{Event}
use Rattle.crawl_kinds.specs.declared.event.Event.TheVariants.{Session, Seeds, Emit, Finish}
use Rattle.crawl_kinds.specs.declared.event.End.{End}
use Rattle.crawl_kinds.specs.declared.event.Outcome.{Outcome}
use Rattle.crawl_kinds.specs.declared.event.Outcome.TheVariants.{Success, Failure, Disregard, Retry}
use Rattle.crawl_kinds.specs.declared.event.Verdict.{Verdict}
use Rattle.crawl_kinds.specs.declared.event.Verdict.TheVariants.{Allowed, Precluded, Needed, Unsupported, Unreachable}
use Rattle.crawl_kinds.specs.declared.item.Item.{Item}
use Rattle.crawl_kinds.specs.declared.settings.Settings.{Settings}
use Rattle.crawl_kinds.specs.Event.{adds_of, emit_of, finish_of, Emission, Finishing}
use Rattle.crawl_history.specs.Facts.{Facts, Archive}
use Rattle.crawl_history.specs.History.{History, history_of, last_time, ticket_count, with_event}
use Rattle.crawl_history.specs.Codes.{robots_needed}
use Rattle.crawl_history.specs.Counts.{vain_tries, is_vain_finish, try_number}
use Rattle.crawl_history.specs.Ends.{Suits, is_fetched_end}
use Rattle.crawl_history.specs.Outcomes.{is_retry}
use Rattle.crawl_history.specs.Places.{has_key, adds_key, is_waiting, known_keys}
use Rattle.crawl_history.specs.Queues.{all_adds, adds_from, ordinal_count}
use Rattle.crawl_history.specs.Emission.{answer, Gives}
use Rattle.crawl_history.specs.Steps.{last_caller, Step, Legal, Permits, FinishesOne}
use Rattle.crawl_history.specs.Tickets.{emit_out}
use Rattle.crawl_history.specs.Verdicts.{verdict}
use Rattle.history_steps.specs.ScansStep.{one_if}
use Rattle.history_steps.proofs.Counting.{vain_tries-with_event}
use Rattle.frontier_memo.specs.Fits.{last_added, place_at_add, EmitFits, Fits}
use Rattle.frontier_memo.specs.Sums.{saturated}
use Rattle.history_steps.proofs.Legal.{in_room, in_time, legal_keeps}
use Rattle.history_steps.proofs.Placing.{all_adds-with_event}
use Rattle.core_facts.specs.CoreFacts.{Pages}
use Rattle.core_facts.specs.ValidEvent.{is_item, is_add, is_event}
use Rattle.frontier_core.specs.Choosing.{GoesOut}
use Rattle.frontier_core.specs.Emitting.{emit_event, IsStep}
use Rattle.frontier_core.specs.declared.emitted.Emitted.{Emitted}
use Rattle.frontier_memo.specs.declared.known.Waiting.{Waiting}
use Rattle.frontier_core.specs.Core.{Core, facts, history, next_time}
use Rattle.frontier_core.proofs.Added.{numbered, of_last}
use Rattle.frontier_memo.proofs.Counting.{keys_more}
use Rattle.frontier_memo.proofs.Lists.{all-append}

-- ---- all that was added is valid

pub and_left : (a b : Bool) → (a && b) ≡ true → a ≡ true
and_left true b h = refl
and_left false b h = cc

pub and_right : (a b : Bool) → (a && b) ≡ true → b ≡ true
and_right true b h = h
and_right false b h = cc

valid_adds : (adds : List Item) → list_all is_add adds ≡ true → AllByRecursion (λ i. is_add i ≡ true) adds
valid_adds [] all = tt
valid_adds (x ∷ adds) all = (and_left (is_add x) (list_all is_add adds) all, valid_adds adds (and_right (is_add x) (list_all is_add adds) all))

adds_valid : (e : Event) → is_event e ≡ true → AllByRecursion (λ i. is_add i ≡ true) (adds_of e)
adds_valid (Session time job format) valid = tt
adds_valid (Seeds time list adds) valid = valid_adds adds (and_right _ _ valid)
adds_valid (Emit time caller ticket verdict item) valid = tt
adds_valid (Finish time caller ticket item end adds) valid = valid_adds adds (and_right _ _ valid)

module _ (pages : Pages) (a : Archive) (core : Core) (legal : Legal (facts core pages) a core.events) where
  all_valid : AllByRecursion (λ x. is_add x.item ≡ true) (all_adds (history core))
  all_valid =
      legal_keeps (facts core pages) a (λ h. AllByRecursion (λ x. is_add x.item ≡ true) (all_adds h))
      (λ h e before step.
      subst (AllByRecursion (λ x. is_add x.item ≡ true)) (sym (all_adds-with_event h e))
      (all-append (λ x. is_add x.item ≡ true) (all_adds h) (adds_from (ordinal_count h + 1) (adds_of e)) before (numbered (λ i. is_add i ≡ true) (ordinal_count h + 1) (adds_of e) (adds_valid e step.valid))))
      core.events tt legal

  -- the item with which a key was added last
  pub added_add : (key : List ℕ) (item : Item) → last_added (history core) key ≡ Some item → is_add item ≡ true
  added_add key item added = of_last (λ i. is_add i ≡ true) key (all_adds (history core)) item all_valid added

  added_valid : (key : List ℕ) (item : Item) → last_added (history core) key ≡ Some item → is_item item ≡ true
  added_valid key item added = and_left (is_item item) _ (added_add key item added)

-- ---- the step

-- something was added, so there are events
pub some_event : (events : List Event) (key : List ℕ) (item : Item) → last_added (history_of events) key ≡ Some item → nat_lt 0 (0 + length events) ≡ true
some_event [] key item added = cc
some_event (e ∷ events) key item added = lt-ltb 0 (0 + length (e ∷ events)) (omega arith)

pub and_both : (a b : Bool) → a ≡ true → b ≡ true → (a && b) ≡ true
and_both true true one other = refl
and_both true false one other = other
and_both false b one other = one

pub or_left : (a b : Bool) → a ≡ true → (a || b) ≡ true
or_left true b h = refl
or_left false b h = cc

-- ---- tries

-- a try in vain is one of those that the job allows, and not the last
vain_in_time :
    (f : Facts) (a : Archive) (number : ℕ) (item : Item) (end : End) (verdict : Verdict)
    → Suits f a number item end verdict → is_retry end.outcome ≡ true → int_eq end.code robots_needed ≡ false → number < f.settings.max_tries
vain_in_time f a number item end Allowed suits again asked = by_outcome end.outcome suits.0 again
  where
    by_outcome : (o : Outcome) → is_fetched_end f a item number end o ≡ true → is_retry o ≡ true → number < f.settings.max_tries
    by_outcome Success ends again = cc
    by_outcome Failure ends again = cc
    by_outcome Disregard ends again = cc
    by_outcome Retry ends again =
        ltb-true number f.settings.max_tries (and_left _ _ (and_left _ _ (and_left _ _ ends)))
vain_in_time f a number item end Unsupported suits again asked = let clash : true ≡ false = sym again ∙ ap (λ (e : End). is_retry e.outcome) suits in cc
vain_in_time f a number item end Needed suits again asked = let clash : false ≡ true = sym asked ∙ ap (λ (e : End). int_eq e.code robots_needed) suits in cc
vain_in_time f a number item end Unreachable suits again asked = let clash : true ≡ false = sym again ∙ ap (λ (e : End). is_retry e.outcome) suits in cc
vain_in_time f a number item end Precluded suits again asked = let clash : true ≡ false = sym again ∙ ap (λ (e : End). is_retry e.outcome) suits in cc

-- each key was tried in vain less often than the job allows tries, or never
abbrev FewTries : Settings → History → Type 0
FewTries s h = (key : List ℕ) → vain_tries h key < max s.max_tries 1

not_true : (b : Bool) → not b ≡ true → b ≡ false
not_true true h = cc
not_true false h = refl

module _ (f : Facts) (a : Archive) (h : History) where
  -- a finish that is a try in vain
  vain_finish : (key : List ℕ) (c : Finishing) (o : Option Emission) → FinishesOne f a h c o → is_vain_finish key (Some c) ≡ true → vain_tries h key + 1 < max f.settings.max_tries 1
  vain_finish key c None ends vain = absurd ends
  vain_finish key c (Some m) ends vain =
      let first : (has_key key c.item && is_retry c.end.outcome) ≡ true = and_left _ _ vain in
      let own : m.item.key ≡ key = ap (λ (i : Item). i.key) (sym ends.item) ∙ (bytes_eq-Decides c.item.key key).0 (and_left _ _ first) in
      let below : try_number h m.item.key < f.settings.max_tries = vain_in_time f a (try_number h m.item.key) c.item c.end m.verdict ends.suits (and_right _ _ first) (not_true _ (and_right _ _ vain)) in
      let same : vain_tries h m.item.key ≡ vain_tries h key = ap (vain_tries h) own in
      less f.settings.max_tries below same
    where
      less : (most : ℕ) → vain_tries h m.item.key + 1 < most → vain_tries h m.item.key ≡ vain_tries h key → vain_tries h key + 1 < max most 1
      less most below same = omega arith

  -- an event that is one
  vain_event : (key : List ℕ) (e : Event) → Permits f a h e → is_vain_finish key (finish_of e) ≡ true → vain_tries h key + 1 < max f.settings.max_tries 1
  vain_event key (Session time job format) permits vain = cc
  vain_event key (Seeds time list adds) permits vain = cc
  vain_event key (Emit time caller ticket verdict item) permits vain = cc
  vain_event key (Finish time caller ticket item end adds) permits vain =
      vain_finish key (record { time = time; caller = caller; ticket = ticket; item = item; end = end; adds = adds }) (emit_out h ticket) permits vain

  few_more : (e : Event) → FewTries f.settings h → Step f a h e → FewTries f.settings (with_event h e)
  few_more e few step key =
      subst (λ n. n < max f.settings.max_tries 1) (sym (vain_tries-with_event h e key))
      (by_event (adds_key key e) (is_vain_finish key (finish_of e)) refl)
    where
      by_event : (b c : Bool) → is_vain_finish key (finish_of e) ≡ c → (if b then 0 else vain_tries h key + one_if c) < max f.settings.max_tries 1
      by_event true c is = omega arith
      by_event false true is = vain_event key e step.permits is
      by_event false false is = let before = few key in omega (arith, before)

few_tries : (f : Facts) (a : Archive) (events : List Event) → Legal f a events → FewTries f.settings (history_of events)
few_tries f a events legal = legal_keeps f a (FewTries f.settings) (few_more f a) events (λ key. omega arith) legal

-- the emit of an item that the history gives, at the next time and under the next ticket
pub emits :
    (pages : Pages) (a : Archive) (core : Core) (time now caller ticket : ℕ) (v : Verdict) (item : Item)
    → Legal (facts core pages) a core.events → time ≡ next_time core now
    → Permits (facts core pages) a (history core) (Emit time caller ticket v item) → ticket < 2 ^ 64 → last_added (history core) item.key ≡ Some item
    → Step (facts core pages) a (history core) (Emit time caller ticket v item)
emits pages a core time now caller ticket v item legal at permits fits added =
    let earlier : last_time (history core) ≤ MAX_MS = in_time (facts core pages) a core.events legal in
    let later : time ≤ MAX_MS = omega (arith, at, earlier) in
    record {
      opened = or_left (nat_lt 0 (0 + length core.events)) false (some_event core.events item.key item added);
      later = omega (arith, at);
      in_time = later;
      valid = and_both _ (is_item item) (and_both _ (nat_lt ticket (2 ^ 64)) (and_both (nat_le time MAX_MS) (nat_le caller 31) (le-leb time MAX_MS later) (le-leb caller 31 permits.3)) (lt-ltb ticket (2 ^ 64) fits)) (added_valid pages a core legal item.key item added);
      permits = permits;
      room = subst (λ n. n ≤ core.settings.max_keys)
          (sym (keys_more core.events (Emit time caller ticket v item) tt refl ∙ add-zero (length (known_keys (history core)))))
          (in_room (facts core pages) a core.events legal);
    }

-- the number of the try that comes next, of a key that was tried so often as is kept
pub tried_so_often :
    (pages : Pages) (a : Archive) (core : Core) (key : List ℕ) (tries number : ℕ) → Legal (facts core pages) a core.events
    → tries ≡ saturated (vain_tries (history core) key) → ((n : ℕ) → tries ≡ saturated n → n < max core.settings.max_tries 1 → number ≡ n + 1)
    → number ≡ try_number (history core) key
tried_so_often pages a core key tries number legal is counts = counts (vain_tries (history core) key) is (few_tries (facts core pages) a core.events legal key)

-- one ticket at most to each event
pub few_tickets : (events : List Event) → ticket_count (history_of events) ≤ length events
few_tickets events = omega (arith, emits_fewer events)
  where
    emits_fewer : (es : List Event) → length (filter_map emit_of es) ≤ length es
    emits_fewer [] = omega arith
    emits_fewer (e ∷ es) = by_emit (emit_of e) (emits_fewer es)
      where
        by_emit : (o : Option Emission) → length (filter_map emit_of es) ≤ length es → length (cons_option o (filter_map emit_of es)) ≤ length (e ∷ es)
        by_emit None below = omega (arith, below)
        by_emit (Some m) below = omega (arith, below)

-- where its item may go out, the emit fits
pub emit_fits :
    (h : History) (time caller ticket : ℕ) (v : Verdict) (item : Item) → EmitFits h (ticket_count h + 1) item → ticket ≡ ticket_count h + 1
    → Fits h (Emit time caller ticket v item)
emit_fits h time caller ticket v item may next =
    record { kind = subst (λ (n : ℕ). EmitFits h n item) (sym next) may; adds = λ earlier later x split. none earlier later x split }
  where
    none : (earlier later : List Item) (x : Item) → [] ≡ earlier ++ x ∷ later → is_waiting (place_at_add h (Emit time caller ticket v item) earlier x.key) ≡ false
    none [] later x split = cc
    none (y ∷ earlier) later x split = cc

-- the step of an item that goes out
pub step_of :
    (pages : Pages) (a : Archive) (core : Core) (now : ℕ) (own : Waiting) (one : Emitted) → one.work.item ≡ own.item → one.work.at ≡ next_time core now
    → one.ticket ≡ ticket_count (history core) + 1 → one.ticket < 2 ^ 64 → one.caller ≤ last_caller → GoesOut (history core) own
    → answer (facts core pages) a (history core) (next_time core now) ≡ Gives own.item
    → one.work.verdict ≡ verdict (facts core pages) a (history core) own.item (next_time core now)
    → ((n : ℕ) → own.tries ≡ saturated n → n < max core.settings.max_tries 1 → one.work.tries ≡ n + 1)
    → IsStep pages a core one
step_of pages a core now own one item at next fits few goes gives says counts =
    record { permits = permits; step = λ legal. emits pages a core one.work.at now one.caller one.ticket one.work.verdict one.work.item legal at permits fits added; tries = tries }
  where
    h : History
    h = history core

    permits : Permits (facts core pages) a h (emit_event one)
    permits = (
      ap (answer (facts core pages) a h) at ∙ gives ∙ ap Gives (sym item),
      says ∙ ap₂ (verdict (facts core pages) a h) (sym item) (sym at),
      next,
      few,
    )

    added : last_added h one.work.item.key ≡ Some one.work.item
    added = ap (λ (i : Item). last_added h i.key) item ∙ goes.fits.added ∙ ap Some (sym item)

    tries : Legal (facts core pages) a core.events → one.work.tries ≡ try_number h one.work.item.key
    tries legal = tried_so_often pages a core own.item.key own.tries one.work.tries legal goes.tries counts ∙ ap (λ (i : Item). try_number h i.key) (sym item)
