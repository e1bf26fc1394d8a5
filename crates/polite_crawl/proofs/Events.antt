-- Events with one more: valid, no later than the latest time, and with a session where there was one.
use Rattle.std.proofs.Common.{◌≡◌, ◌≤◌, ℕ, max, true, List, [], ◌∷◌, ◌++◌, fold, ap, ◌∙◌, arith}
use Rattle.std.specs.Prelude.{◌||◌}
use Rattle.std.specs.List.{AllByRecursion, list_any}
use Rattle.std.proofs.lemmas.List.Folds.{list_any-append}
use Rattle.crawl_kinds.specs.Event.{time_of}
use Rattle.crawl_kinds.specs.declared.event.TheConstants.{MAX_MS}
use Rattle.crawl_kinds.specs.declared.event.Event.{Event}
use Rattle.crawl_kinds.specs.declared.event.Event.TheVariants.{Session, Seeds, Emit, Finish}
use Rattle.crawl_history.specs.History.{history_of, is_session, last_time}
use Rattle.journal_valid.specs.Valid.{IsEvent}

-- what holds of each element holds with one more of which it holds
pub all_push : {X : Type 0} (P : X → Type 0) (xs : List X) (x : X) → AllByRecursion P xs → P x → AllByRecursion P (xs ++ x ∷ [])
all_push P [] x all one = (one, tt)
all_push P (y ∷ xs) x all one = (all.0, all_push P xs x all.1 one)

-- the time of a valid event is no later than the latest one
time_valid : (e : Event) → IsEvent e → time_of e ≤ MAX_MS
time_valid (Session time job format) is = is.0
time_valid (Seeds time list adds) is = is.0
time_valid (Emit time caller ticket verdict item) is = is.0.in_time
time_valid (Finish time caller ticket item end adds) is = is.0.in_time

-- nor is the latest of several
latest_valid : (t : ℕ) (events : List Event) → t ≤ MAX_MS → AllByRecursion IsEvent events → fold (λ s e. max s (time_of e)) t events ≤ MAX_MS
latest_valid t [] le all = le
latest_valid t (e ∷ events) le all =
    let here : time_of e ≤ MAX_MS = time_valid e all.0 in
    latest_valid (max t (time_of e)) events (omega arith) all.1

-- no valid event is later than the latest time
pub last_valid : (events : List Event) → AllByRecursion IsEvent events → last_time (history_of events) ≤ MAX_MS
last_valid events all = latest_valid 0 events (omega arith) all

-- a session stays behind further events
pub opened_more : (events more : List Event) → list_any is_session events ≡ true → list_any is_session (events ++ more) ≡ true
opened_more events more opened = list_any-append is_session events more ∙ ap (λ b. b || list_any is_session more) opened
