-- A second session: what was out waits, robots files are asked for again, and hosts wait a while.
use Rattle.std.specs.Prelude.{◌≡◌, ℕ, ◌+◌, List, [], ◌∷◌, ◌++◌, Some, codes, pos}
use Rattle.crawl_kinds.specs.declared.event.Event.{Event}
use Rattle.crawl_kinds.specs.declared.event.Event.TheVariants.{Session, Emit, Finish}
use Rattle.crawl_kinds.specs.declared.event.Verdict.TheVariants.{Needed}
use Rattle.crawl_kinds.specs.declared.event.Outcome.TheVariants.{Retry}
use Rattle.crawl_kinds.specs.declared.event.Place.TheVariants.{Waiting, Done}
use Rattle.crawl_history.specs.Codes.{robots_needed}
use Rattle.crawl_history.specs.History.{history_of, ticket_count}
use Rattle.crawl_history.specs.Places.{place_of}
use Rattle.crawl_history.specs.Queues.{waiting_adds, queue}
use Rattle.crawl_history.specs.Tickets.{emits_out}
use Rattle.crawl_history.specs.Verdicts.{verdict}
use Rattle.crawl_history.specs.Waits.{wake}
use Rattle.crawl_history.specs.Emission.{answer, Gives, NotYet}
use Rattle.crawl_history.specs.Ends.{end_without_fetch}
use Rattle.crawl_history.specs.Steps.{Legal}
use Rattle.history_rows.specs.Names.{class_a}
use Rattle.history_rows.specs.Toy.{moment}
use Rattle.history_rows.specs.Tickets as tickets

-- the next morning
abbrev pub morning : ℕ
morning = moment + 40000000

-- a session begins while the page is out
abbrev pub again : List Event
again = tickets.taken ++ Session morning (codes "sample") 1 ∷ []

-- the page goes out again, and its robots file is needed again
abbrev pub asked_again : List Event
asked_again =
    again ++ Emit (morning + 3000) 0 4 Needed tickets.page
    ∷ Finish (morning + 3000) 0 4 tickets.page (end_without_fetch Retry robots_needed 1) (tickets.robots ∷ []) ∷ []

pub record SessionsBeginAnew : Type 0 where
  -- nothing is out, what was out waits
  pub forgets : emits_out (history_of again) ≡ []
  pub waits : place_of (history_of again) tickets.page.key ≡ Waiting
  -- the host waits a while
  pub wakes : wake tickets.facts tickets.files (history_of again) class_a ≡ morning + 3000
  pub not_yet : answer tickets.facts tickets.files (history_of again) (morning + 2999) ≡ NotYet (Some (morning + 3000))
  pub goes : answer tickets.facts tickets.files (history_of again) (morning + 3000) ≡ Gives tickets.page
  -- robots rules are forgotten
  pub needed : verdict tickets.facts tickets.files (history_of again) tickets.page (morning + 3000) ≡ Needed
  -- tickets go on
  pub tickets_go_on : ticket_count (history_of again) ≡ 3
  -- a robots file that was done waits again, with the ordinal of its new add; the page keeps its own
  pub was_done : place_of (history_of again) tickets.robots.key ≡ Done (pos 404)
  pub waits_again : place_of (history_of asked_again) tickets.robots.key ≡ Waiting
  pub ordinals : waiting_adds (history_of asked_again) ≡ record { ordinal = 1; item = tickets.page } ∷ record { ordinal = 3; item = tickets.robots } ∷ []
  pub robots_first : queue (history_of asked_again) class_a ≡ tickets.robots ∷ tickets.page ∷ []
  -- these events are a legal history
  pub legal : Legal tickets.facts tickets.files asked_again
