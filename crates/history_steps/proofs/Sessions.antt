-- What one more event does to times, tickets, emits and finishes.
use Rattle.std.proofs.Common.{◌≡◌, ℕ, ◌+◌, Bool, true, false, ◌||◌, cond, List, [], ◌∷◌, ◌++◌, length, refl, ◌∙◌, ap, arith, Option, Some, None, not, ◌==◌}
use Rattle.std.specs.Prelude.{filter, filter_map, max, unwrap_or, option_to_list, if◌then◌else◌}
use Rattle.std.specs.List.{list_any, cons_option}
use Rattle.std.specs.Option.{option_or}
use Rattle.std.proofs.lemmas.List.{append-nil, length-append}
use Rattle.std.proofs.lemmas.List.Sums.{fold-append}
use Rattle.std.proofs.lemmas.List.Folds.{list_any-append}
use Rattle.std.proofs.lemmas.List.Elements.{filter_map-append, filter-append}
use Rattle.crawl_kinds.specs.declared.event.Event.{Event}
use Rattle.crawl_kinds.specs.declared.event.Event.TheVariants.{Session, Seeds, Emit, Finish}
use Rattle.crawl_kinds.specs.Event.{time_of, session_of, emit_of, finish_of, Emission, Finishing}
use Rattle.crawl_history.specs.Scans.{last_of}
use Rattle.crawl_history.specs.History.{History, with_event, is_session, session_events, session_emits, session_finishes, session_time, finishes, last_time, ticket_count}
use Rattle.crawl_history.specs.Tickets.{emits_out}
use Rattle.history_steps.specs.ScansStep.{ends_emit, out_by}
use Rattle.history_steps.proofs.Lists.{last_of-snoc, after_last-snoc}

pub last_time-with_event : (h : History) (e : Event) → last_time (with_event h e) ≡ max (last_time h) (time_of e)
last_time-with_event h e = fold-append (λ t e. max t (time_of e)) h.base.time h.events (e ∷ [])

unwrap_or-or : {X : Type 0} (o p : Option X) (d : X) → unwrap_or (option_or o p) d ≡ unwrap_or o (unwrap_or p d)
unwrap_or-or None p d = refl
unwrap_or-or (Some x) p d = refl

pub session_time-with_event : (h : History) (e : Event) → session_time (with_event h e) ≡ unwrap_or (session_of e) (session_time h)
session_time-with_event h e = ap (λ o. unwrap_or o 0) (last_of-snoc session_of h.events e) ∙ unwrap_or-or (session_of e) (last_of session_of h.events) 0

pub ticket_count-with_event : (h : History) (e : Event) → ticket_count (with_event h e) ≡ ticket_count h + length (option_to_list (emit_of e))
ticket_count-with_event h e =
    ap (λ xs. h.base.tickets + length xs) (filter_map-append emit_of h.events (e ∷ []))
    ∙ ap (λ n. h.base.tickets + n) (length-append (filter_map emit_of h.events) (filter_map emit_of (e ∷ [])))
    ∙ by_emit (emit_of e) h.base.tickets (length (filter_map emit_of h.events))
  where
    by_emit : (o : Option Emission) (b n : ℕ) → b + (n + length (cons_option o [])) ≡ (b + n) + length (option_to_list o)
    by_emit None b n = omega arith
    by_emit (Some m) b n = omega arith

cons_option-nil : {X : Type 0} (o : Option X) → cons_option o [] ≡ option_to_list o
cons_option-nil None = refl
cons_option-nil (Some x) = refl

pub finishes-with_event : (h : History) (e : Event) → finishes (with_event h e) ≡ finishes h ++ option_to_list (finish_of e)
finishes-with_event h e = filter_map-append finish_of h.events (e ∷ []) ∙ ap (λ xs. finishes h ++ xs) (cons_option-nil (finish_of e))

pub session_events-with_event : (h : History) (e : Event) → session_events (with_event h e) ≡ (if is_session e then [] else session_events h ++ e ∷ [])
session_events-with_event h e = after_last-snoc is_session h.events e

pub session_emits-with_event : (h : History) (e : Event) → session_emits (with_event h e) ≡ (if is_session e then [] else session_emits h ++ option_to_list (emit_of e))
session_emits-with_event h e = ap (filter_map emit_of) (session_events-with_event h e) ∙ by_event e
  where
    by_event : (e : Event) → filter_map emit_of (if is_session e then [] else session_events h ++ e ∷ []) ≡ (if is_session e then [] else session_emits h ++ option_to_list (emit_of e))
    by_event (Session time job format) = refl
    by_event (Seeds time list adds) = filter_map-append emit_of (session_events h) _
    by_event (Emit time caller ticket verdict item) = filter_map-append emit_of (session_events h) _
    by_event (Finish time caller ticket item end adds) = filter_map-append emit_of (session_events h) _

pub session_finishes-with_event : (h : History) (e : Event) → session_finishes (with_event h e) ≡ (if is_session e then [] else session_finishes h ++ option_to_list (finish_of e))
session_finishes-with_event h e = ap (filter_map finish_of) (session_events-with_event h e) ∙ by_event e
  where
    by_event : (e : Event) → filter_map finish_of (if is_session e then [] else session_events h ++ e ∷ []) ≡ (if is_session e then [] else session_finishes h ++ option_to_list (finish_of e))
    by_event (Session time job format) = refl
    by_event (Seeds time list adds) = filter_map-append finish_of (session_events h) _
    by_event (Emit time caller ticket verdict item) = filter_map-append finish_of (session_events h) _
    by_event (Finish time caller ticket item end adds) = filter_map-append finish_of (session_events h) _

-- ---- what is out

abbrev pub unfinished : List Finishing → Emission → Bool
unfinished ends m = not (list_any (λ c. c.ticket == m.ticket) ends)

-- of those that were out, those stay that this finish does not end
filter-fewer : (ends more : List Finishing) (emits : List Emission) → filter (unfinished (ends ++ more)) emits ≡ filter (unfinished more) (filter (unfinished ends) emits)
filter-fewer ends more [] = refl
filter-fewer ends more (m ∷ emits) =
    ap (λ b. cond (not b) (m ∷ filter (unfinished (ends ++ more)) emits) (filter (unfinished (ends ++ more)) emits)) (list_any-append (λ c. c.ticket == m.ticket) ends more)
    ∙ ap (λ xs. cond (not (list_any (λ c. c.ticket == m.ticket) ends || list_any (λ c. c.ticket == m.ticket) more)) (m ∷ xs) xs) (filter-fewer ends more emits)
    ∙ by_cases (list_any (λ c. c.ticket == m.ticket) ends)
  where
    by_cases :
        (b : Bool) → cond (not (b || list_any (λ c. c.ticket == m.ticket) more)) (m ∷ filter (unfinished more) (filter (unfinished ends) emits)) (filter (unfinished more) (filter (unfinished ends) emits))
        ≡ filter (unfinished more) (cond (not b) (m ∷ filter (unfinished ends) emits) (filter (unfinished ends) emits))
    by_cases true = refl
    by_cases false = refl

filter-all : (emits : List Emission) → filter (unfinished []) emits ≡ emits
filter-all [] = refl
filter-all (m ∷ emits) = ap (λ xs. m ∷ xs) (filter-all emits)

pub emits_out-with_event :
    (h : History) (e : Event)
    → emits_out (with_event h e) ≡ (if is_session e then [] else filter (λ m. not (ends_emit (finish_of e) m)) (emits_out h) ++ out_by h (emit_of e))
emits_out-with_event h e =
    ap (λ xs. filter (unfinished xs) (session_emits (with_event h e))) (session_finishes-with_event h e)
    ∙ ap (filter (unfinished (if is_session e then [] else session_finishes h ++ option_to_list (finish_of e)))) (session_emits-with_event h e)
    ∙ by_event e
  where
    by_event :
        (e : Event) → filter (unfinished (if is_session e then [] else session_finishes h ++ option_to_list (finish_of e))) (if is_session e then [] else session_emits h ++ option_to_list (emit_of e))
        ≡ (if is_session e then [] else filter (λ m. not (ends_emit (finish_of e) m)) (emits_out h) ++ out_by h (emit_of e))
    by_event (Session time job format) = refl
    by_event (Seeds time list adds) =
        filter-append (unfinished (session_finishes h ++ [])) (session_emits h) []
        ∙ ap (λ xs. xs ++ []) (filter-fewer (session_finishes h) [] (session_emits h))
    by_event (Emit time caller ticket verdict item) =
        filter-append (unfinished (session_finishes h ++ [])) (session_emits h) (record { time = time; caller = caller; ticket = ticket; verdict = verdict; item = item } ∷ [])
        ∙ ap (λ xs. xs ++ filter (unfinished (session_finishes h ++ [])) (record { time = time; caller = caller; ticket = ticket; verdict = verdict; item = item } ∷ [])) (filter-fewer (session_finishes h) [] (session_emits h))
        ∙ ap (λ xs. filter (unfinished []) (emits_out h) ++ filter (unfinished xs) (record { time = time; caller = caller; ticket = ticket; verdict = verdict; item = item } ∷ [])) (append-nil (session_finishes h))
    by_event (Finish time caller ticket item end adds) =
        filter-append (unfinished (session_finishes h ++ record { time = time; caller = caller; ticket = ticket; item = item; end = end; adds = adds } ∷ [])) (session_emits h) []
        ∙ ap (λ xs. xs ++ []) (filter-fewer (session_finishes h) (record { time = time; caller = caller; ticket = ticket; item = item; end = end; adds = adds } ∷ []) (session_emits h))
