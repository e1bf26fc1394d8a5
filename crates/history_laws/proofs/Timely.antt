-- Every legal history is polite: the emits that a step allows are timely, and each step keeps what holds so far.
use Rattle.std.proofs.Common.{◌≡◌, ℕ, ◌+◌, Bool, true, false, List, [], ◌∷◌, ◌++◌, length, refl, sym, ◌∙◌, ap, subst, Option, Some, None, add-zero}
use Rattle.std.specs.Prelude.{option_map, unwrap_or, if◌then◌else◌, nat_le, nat_lt}
use Rattle.std.proofs.lemmas.List.{append-nil}
use Rattle.crawl_kinds.specs.declared.event.Event.{Event}
use Rattle.crawl_kinds.specs.declared.event.Event.TheVariants.{Session, Seeds, Emit, Finish}
use Rattle.crawl_kinds.specs.declared.snapshot.Snapshot.{Snapshot}
use Rattle.crawl_kinds.specs.Event.{emit_of, Emission, Finishing}
use Rattle.crawl_history.specs.Facts.{Facts, Archive}
use Rattle.crawl_history.specs.History.{empty_snapshot, history_from, session_emits, session_finishes, session_time, ticket_count}
use Rattle.crawl_history.specs.Steps.{Step, Steps, Permits, Legal, FinishesOne}
use Rattle.crawl_history.specs.Tickets.{emit_out}
use Rattle.crawl_history.specs.Waits.{wait_after, capped, first_wake}
use Rattle.history_promises.specs.Polite.{is_timely, is_timely_after, is_due, emit_before, all_timely, Polite}
use Rattle.history_steps.proofs.Sessions.{session_emits-with_event, session_finishes-with_event, ticket_count-with_event}
use Rattle.history_laws.proofs.Chosen.{IsChosen, given-chosen}
use Rattle.history_laws.proofs.Emits.{same_number}
use Rattle.history_laws.proofs.Lists.{both, find_among}
use Rattle.history_laws.proofs.Politeness.{Calm, OpenEmit, calm-session, calm-quiet, calm-emit, calm-finish, not_true}

-- ---- an emit is timely

abbrev pub CalmAt : Snapshot → Facts → Archive → List Event → Type 0
CalmAt base f a es = Calm f a (session_emits (history_from base es)) (session_finishes (history_from base es)) (ticket_count (history_from base es)) es

timely : (base : Snapshot) (f : Facts) (a : Archive) (es : List Event) → CalmAt base f a es → (m : Emission) → IsChosen f a (history_from base es) m.time m.item → is_timely f a (history_from base es) (Some m) ≡ true
timely base f a es calm m chosen = by_emit (emit_before (history_from base es) m.item.class) refl
  where
    first_time : (b : Bool) (t : ℕ) → nat_le (if b then t else 0) m.time ≡ true → (if b then nat_le t m.time else true) ≡ true
    first_time true t h = h
    first_time false t h = refl

    by_emit : (o : Option Emission) → emit_before (history_from base es) m.item.class ≡ o → is_timely_after f a (history_from base es) m.time o ≡ true
    by_emit None was =
        first_time (nat_lt (length (session_emits (history_from base es))) (ticket_count (history_from base es))) (capped (session_time (history_from base es) + f.settings.min_delay_ms))
        (ap (λ o. nat_le (unwrap_or (option_map (λ c. capped (c.time + wait_after f a (history_from base es) c)) o) (first_wake f.settings (history_from base es))) m.time) (sym ((calm.classes m.item.class).none was)) ∙ chosen.awake)
    by_emit (Some x) was =
        let d = (calm.classes m.item.class).due x was chosen.closed in
        ap (is_due f a (history_from base es) m.time) d.2.found
        ∙ ap (λ n. nat_le n m.time) d.2.same
        ∙ ap (λ o. nat_le (unwrap_or (option_map (λ c. capped (c.time + wait_after f a (history_from base es) c)) o) (first_wake f.settings (history_from base es))) m.time) (sym d.2.last)
        ∙ chosen.awake

-- ---- each step keeps what holds

calm-as :
    (f : Facts) (a : Archive) {emits emits' : List Emission} {ends ends' : List Finishing} {count count' : ℕ} (es : List Event) → emits ≡ emits' → ends ≡ ends' → count ≡ count'
    → Calm f a emits ends count es → Calm f a emits' ends' count' es
calm-as f a {emits' = emits'} {ends = ends} {ends' = ends'} {count = count} es p q r calm =
    subst (λ n. Calm f a emits' ends' n es) r (subst (λ xs. Calm f a emits' xs count es) q (subst (λ xs. Calm f a xs ends count es) p calm))

calm-step : (base : Snapshot) (f : Facts) (a : Archive) (es : List Event) (e : Event) → CalmAt base f a es → Step f a (history_from base es) e → CalmAt base f a (es ++ e ∷ [])
calm-step base f a es e calm step = by_event e step.permits
  where
    by_event : (e : Event) → Permits f a (history_from base es) e → CalmAt base f a (es ++ e ∷ [])
    by_event (Session time job format) permits =
        let e = Session time job format in
        calm-as f a (es ++ e ∷ []) (sym (session_emits-with_event (history_from base es) e)) (sym (session_finishes-with_event (history_from base es) e)) (sym (add-zero _) ∙ sym (ticket_count-with_event (history_from base es) e))
        (calm-session f a _ _ _ es e refl calm)
    by_event (Seeds time list adds) permits =
        let e = Seeds time list adds in
        calm-as f a (es ++ e ∷ []) (sym (append-nil _) ∙ sym (session_emits-with_event (history_from base es) e)) (sym (append-nil _) ∙ sym (session_finishes-with_event (history_from base es) e)) (sym (add-zero _) ∙ sym (ticket_count-with_event (history_from base es) e))
        (calm-quiet f a _ _ _ es e refl calm)
    by_event (Emit time caller ticket verdict item) permits =
        let e = Emit time caller ticket verdict item in
        calm-as f a (es ++ e ∷ []) (sym (session_emits-with_event (history_from base es) e)) (sym (append-nil _) ∙ sym (session_finishes-with_event (history_from base es) e)) (sym (ticket_count-with_event (history_from base es) e))
        (calm-emit f a _ _ _ es e (record { time = time; caller = caller; ticket = ticket; verdict = verdict; item = item }) refl permits.2
        ((given-chosen f a (history_from base es) time item permits.0).closed) calm)
    by_event (Finish time caller ticket item end adds) permits =
        let e = Finish time caller ticket item end adds in
        calm-as f a (es ++ e ∷ []) (sym (append-nil _) ∙ sym (session_emits-with_event (history_from base es) e)) (sym (session_finishes-with_event (history_from base es) e)) (sym (add-zero _) ∙ sym (ticket_count-with_event (history_from base es) e))
        (by_emit (emit_out (history_from base es) ticket) refl permits)
      where
        by_emit :
            (o : Option Emission) → emit_out (history_from base es) ticket ≡ o → FinishesOne f a (history_from base es) (record { time = time; caller = caller; ticket = ticket; item = item; end = end; adds = adds }) o
            → Calm f a (session_emits (history_from base es)) (session_finishes (history_from base es) ++ record { time = time; caller = caller; ticket = ticket; item = item; end = end; adds = adds } ∷ []) (ticket_count (history_from base es)) (es ++ Finish time caller ticket item end adds ∷ [])
        by_emit None is permits = absurd permits
        by_emit (Some m) is permits =
            let found = find_among (OpenEmit (session_emits (history_from base es)) (session_finishes (history_from base es)) (ticket_count (history_from base es)) es) _ _ (session_emits (history_from base es)) calm.open_emits_hold m is in
            calm-finish f a _ _ _ es (Finish time caller ticket item end adds) (record { time = time; caller = caller; ticket = ticket; item = item; end = end; adds = adds }) m
            refl permits.item (session_finishes-with_event (history_from base es) (Finish time caller ticket item end adds)) calm found.0 (same_number m.ticket ticket found.1) (not_true _ found.2)

calm-empty : (base : Snapshot) (f : Facts) (a : Archive) → CalmAt base f a []
calm-empty base f a = record { ends_given = tt; all_given = tt; open_emits_hold = tt; classes = λ k. record { none = λ h. refl; due = λ m h. cc h } }

all-timely : (base : Snapshot) (f : Facts) (a : Archive) (before es : List Event) → CalmAt base f a before → Steps f a (history_from base before) es → all_timely f a (history_from base before) es ≡ true
all-timely base f a before [] calm steps = refl
all-timely base f a before (e ∷ es) calm steps =
    both (by_event e steps.0.permits) (all-timely base f a (before ++ e ∷ []) es (calm-step base f a before e calm steps.0) steps.1)
  where
    by_event : (e : Event) → Permits f a (history_from base before) e → is_timely f a (history_from base before) (emit_of e) ≡ true
    by_event (Session time job format) permits = refl
    by_event (Seeds time list adds) permits = refl
    by_event (Emit time caller ticket verdict item) permits =
        timely base f a before calm (record { time = time; caller = caller; ticket = ticket; verdict = verdict; item = item }) (given-chosen f a (history_from base before) time item permits.0)
    by_event (Finish time caller ticket item end adds) permits = refl

pub polite-from : (f : Facts) (a : Archive) (base : Snapshot) (events : List Event) → Steps f a (history_from base []) events → all_timely f a (history_from base []) events ≡ true
polite-from f a base events steps = all-timely base f a [] events (calm-empty base f a) steps

pub legal-polite : (f : Facts) (a : Archive) (events : List Event) → Legal f a events → Polite f a events
legal-polite f a events legal = polite-from f a empty_snapshot events legal
