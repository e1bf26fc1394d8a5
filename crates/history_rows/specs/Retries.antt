-- Fetches that take time and fetches that fail, with two tries for each item.
use Rattle.std.specs.Prelude.{◌≡◌, ◌+◌, List, [], ◌∷◌, ◌++◌, Some}
use Rattle.crawl_kinds.specs.declared.event.Event.{Event}
use Rattle.crawl_kinds.specs.declared.event.Event.TheVariants.{Emit, Finish}
use Rattle.crawl_kinds.specs.declared.event.Verdict.TheVariants.{Allowed, Unreachable}
use Rattle.crawl_kinds.specs.declared.event.Place.TheVariants.{Waiting, Done}
use Rattle.crawl_history.specs.Codes.{too_many_tries}
use Rattle.crawl_history.specs.History.{history_of}
use Rattle.crawl_history.specs.Places.{place_of}
use Rattle.crawl_history.specs.Counts.{vain_tries, try_number, budget_spent}
use Rattle.crawl_history.specs.Verdicts.{verdict}
use Rattle.crawl_history.specs.Waits.{wake}
use Rattle.crawl_history.specs.Emission.{answer, Gives, NotYet}
use Rattle.crawl_history.specs.Steps.{Legal}
use Rattle.history_rows.specs.Fetches.{success, refusal, gave_up}
use Rattle.history_rows.specs.Names.{class_a}
use Rattle.history_rows.specs.Toy.{moment}
use Rattle.history_rows.specs.Tickets as tickets

-- the robots file takes a second and a half
abbrev pub slow : List Event
slow = tickets.asked ++ Emit moment 0 2 Allowed tickets.robots ∷ Finish (moment + 1500) 0 2 tickets.robots (success 404 moment 1500 45 0) [] ∷ []

-- its connection is refused
abbrev pub refused_once : List Event
refused_once = tickets.asked ++ Emit moment 0 2 Allowed tickets.robots ∷ Finish (moment + 10) 0 2 tickets.robots (refusal moment 1) [] ∷ []

-- and a quarter of an hour later once more
abbrev pub refused_twice : List Event
refused_twice =
    refused_once ++ Emit (moment + 900010) 0 3 Allowed tickets.robots
    ∷ Finish (moment + 900020) 0 3 tickets.robots (gave_up (moment + 900010) 2) [] ∷ []

pub record RetriesCount : Type 0 where
  -- five times the duration, counted from the finish and not from the emit
  pub slow_wake : wake tickets.facts tickets.files (history_of slow) class_a ≡ moment + 9000
  pub slow_not_yet : answer tickets.facts tickets.files (history_of slow) (moment + 8999) ≡ NotYet (Some (moment + 9000))
  pub slow_goes : answer tickets.facts tickets.files (history_of slow) (moment + 9000) ≡ Gives tickets.page
  -- an item that needs its robots file first was not tried
  pub needed : vain_tries (history_of tickets.asked) tickets.page.key ≡ 0
  -- a refused one was, waits for the retry delay from its finish on, and goes first again
  pub tried : try_number (history_of refused_once) tickets.robots.key ≡ 2
  pub waits : place_of (history_of refused_once) tickets.robots.key ≡ Waiting
  pub not_yet : answer tickets.facts tickets.files (history_of refused_once) (moment + 900009) ≡ NotYet (Some (moment + 900010))
  pub goes : answer tickets.facts tickets.files (history_of refused_once) (moment + 900010) ≡ Gives tickets.robots
  -- after the last try it failed, and its host can't be reached
  pub done : place_of (history_of refused_twice) tickets.robots.key ≡ Done too_many_tries
  pub unreachable : verdict tickets.facts tickets.files (history_of refused_twice) tickets.page (moment + 903020) ≡ Unreachable
  pub page_goes : answer tickets.facts tickets.files (history_of refused_twice) (moment + 903020) ≡ Gives tickets.page
  pub costs_nothing : budget_spent (history_of refused_twice) class_a ≡ 0
  -- these events are a legal history
  pub legal : Legal tickets.facts tickets.files refused_twice
