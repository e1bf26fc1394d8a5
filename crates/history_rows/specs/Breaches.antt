-- Events that are no legal history, each of which breaks a promise.
use Rattle.std.specs.Prelude.{◌≡◌, ◌+◌, true, false, List, [], ◌∷◌, ◌++◌}
use Rattle.crawl_kinds.specs.declared.event.Event.{Event}
use Rattle.crawl_kinds.specs.declared.event.Event.TheVariants.{Emit, Finish}
use Rattle.crawl_kinds.specs.declared.event.Verdict.TheVariants.{Allowed, Needed}
use Rattle.crawl_history.specs.History.{history_of}
use Rattle.history_promises.specs.Complete.{is_complete}
use Rattle.history_promises.specs.Polite.{all_timely}
use Rattle.history_rows.specs.Fetches.{success}
use Rattle.history_rows.specs.Toy.{moment}
use Rattle.history_rows.specs.Tickets as tickets
use Rattle.history_rows.specs.Budget as budget
use Rattle.history_rows.specs.Sessions as sessions

-- a page of three links adds two of them
abbrev pub link_lost : List Event
link_lost = tickets.taken ++ Finish (moment + 3000) 0 3 tickets.page (success 200 (moment + 3000) 0 945 1) (tickets.linked_items 2) ∷ []

-- the page goes out a millisecond early
abbrev pub too_early : List Event
too_early = tickets.known ++ Emit (moment + 2999) 0 3 Allowed tickets.page ∷ []

-- a second page of the host goes out before the first one came
abbrev pub two_out : List Event
two_out = budget.begun ++ Emit (moment + 3000) 0 3 Allowed (budget.page 1) ∷ Emit (moment + 60000) 0 4 Allowed (budget.page 2) ∷ []

-- the page goes out too early in the second session
abbrev pub session_too_early : List Event
session_too_early = sessions.again ++ Emit (sessions.morning + 2999) 0 4 Needed tickets.page ∷ []

pub record PromisesRefuse : Type 0 where
  pub lost : is_complete tickets.facts tickets.files link_lost ≡ false
  pub early : all_timely tickets.facts tickets.files (history_of []) too_early ≡ false
  pub twice : all_timely budget.facts budget.files (history_of []) two_out ≡ false
  pub early_again : all_timely tickets.facts tickets.files (history_of []) session_too_early ≡ false
  -- in time it is polite
  pub in_time : all_timely tickets.facts tickets.files (history_of []) sessions.asked_again ≡ true
