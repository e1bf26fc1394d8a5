-- What holds of a legal history, and a legal history with one step more.
use Rattle.std.proofs.Common.{◌≤◌, List, [], ◌∷◌, ◌++◌, length, sym, subst, arith}
use Rattle.std.proofs.lemmas.List.{append-nil, append_assoc}
use Rattle.crawl_kinds.specs.declared.event.Event.{Event}
use Rattle.crawl_kinds.specs.declared.event.TheConstants.{MAX_MS}
use Rattle.crawl_history.specs.Facts.{Facts, Archive}
use Rattle.crawl_history.specs.History.{History, history_of, last_time, with_event}
use Rattle.crawl_history.specs.Places.{known_keys}
use Rattle.crawl_history.specs.Steps.{Step, Steps, Legal}
use Rattle.history_steps.proofs.Sessions.{last_time-with_event}

-- what holds from the start and through each step
module _ (f : Facts) (a : Archive) (P : History → Type 0) (keep : (h : History) (e : Event) → P h → Step f a h e → P (with_event h e)) where
  through : (before events : List Event) → P (history_of before) → Steps f a (history_of before) events → P (history_of (before ++ events))
  through before [] holds steps = subst (λ l. P (history_of l)) (sym (append-nil before)) holds
  through before (e ∷ events) holds steps =
      subst (λ l. P (history_of l)) (append_assoc before (e ∷ []) events) (through (before ++ e ∷ []) events (keep (history_of before) e holds steps.0) steps.1)

  pub legal_keeps : (events : List Event) → P (history_of []) → Legal f a events → P (history_of events)
  legal_keeps events start legal = through [] events start legal

-- times end with the year 9999
pub in_time : (f : Facts) (a : Archive) (events : List Event) → Legal f a events → last_time (history_of events) ≤ MAX_MS
in_time f a events legal =
    legal_keeps f a (λ h. last_time h ≤ MAX_MS) (λ h e before step. omega (arith, before, step.in_time, last_time-with_event h e)) events (omega arith) legal

-- no more keys are known than the job allows
pub in_room : (f : Facts) (a : Archive) (events : List Event) → Legal f a events → length (known_keys (history_of events)) ≤ f.settings.max_keys
in_room f a events legal =
    legal_keeps f a (λ h. length (known_keys h) ≤ f.settings.max_keys) (λ h e before step. step.room) events (omega arith) legal

-- steps from a history on, and one step behind them
steps_more : (f : Facts) (a : Archive) (before events : List Event) (e : Event) → Steps f a (history_of before) events
    → Step f a (history_of (before ++ events)) e → Steps f a (history_of before) (events ++ e ∷ [])
steps_more f a before [] e steps step = (subst (λ l. Step f a (history_of l) e) (append-nil before) step, tt)
steps_more f a before (x ∷ events) e steps step = (
  steps.0,
  steps_more f a (before ++ x ∷ []) events e steps.1 (subst (λ l. Step f a (history_of l) e) (sym (append_assoc before (x ∷ []) events)) step),
)

-- so a legal history is legal with one step more
pub legal_more : (f : Facts) (a : Archive) (events : List Event) (e : Event) → Legal f a events → Step f a (history_of events) e → Legal f a (events ++ e ∷ [])
legal_more f a events e legal step = steps_more f a [] events e legal step
