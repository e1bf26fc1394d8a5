-- A snapshot of two seeds, and a history that goes on from a snapshot beside the whole one.
use Rattle.std.specs.Prelude.{◌≡◌, ◌+◌, List, [], ◌∷◌, ◌++◌, Some, None, codes, pos}
use Rattle.crawl_kinds.specs.declared.event.Event.{Event}
use Rattle.crawl_kinds.specs.declared.event.Event.TheVariants.{Session}
use Rattle.crawl_kinds.specs.declared.event.Verdict.TheVariants.{Allowed}
use Rattle.crawl_history.specs.History.{History, history_from, history_of}
use Rattle.crawl_history.specs.Queues.{queue}
use Rattle.crawl_history.specs.Emission.{answer, NotYet}
use Rattle.crawl_history.specs.Snapshots.{snapshot_of}
use Rattle.history_rows.specs.Names.{class_a}
use Rattle.history_rows.specs.Toy.{moment}
use Rattle.history_rows.specs.Budget as budget
use Rattle.history_rows.specs.Tickets as tickets
use Rattle.history_rows.specs.TwoHosts as hosts

-- a session a day later
abbrev pub later : Event
later = Session (moment + 86400000) (codes "sample") 1

-- the new events after a snapshot of the old ones
abbrev pub gone_on : List Event → List Event → History
gone_on old new = history_from (snapshot_of (history_of old)) new

pub record SnapshotsServe : Type 0 where
  -- the snapshot after two seeds
  pub of_seeds :
      snapshot_of (history_of hosts.begun)
      ≡ record {
        events = 2;
        time = moment;
        tickets = 0;
        ordinals = 2;
        end = None;
        pages = 0;
        bytes = 0;
        first = moment;
        finished = [];
        waiting = record { ordinal = 1; item = hosts.page_a; tries = 0 } ∷ record { ordinal = 2; item = hosts.page_b; tries = 0 } ∷ [];
        spent = [];
        tickets_out = [];
      }
  -- the snapshot while a ticket is out
  pub of_taken :
      snapshot_of (history_of tickets.taken)
      ≡ record {
        events = 7;
        time = moment + 3000;
        tickets = 3;
        ordinals = 2;
        end = Some (record { file = 0; end = 1 });
        pages = 0;
        bytes = 45;
        first = moment;
        finished = record { key = tickets.robots.key; code = pos 404 } ∷ [];
        waiting = record { ordinal = 1; item = tickets.page; tries = 0 } ∷ [];
        spent = [];
        tickets_out = record { ticket = 3; caller = 0; time = moment + 3000; verdict = Allowed; key = tickets.page.key } ∷ [];
      }
  -- what two pages of a budget spent
  pub of_two : (snapshot_of (history_of budget.two)).spent ≡ record { class = class_a; spent = 2 } ∷ []
  -- the finish of a ticket that is out in a snapshot leads to the snapshot of the whole
  pub across : snapshot_of (gone_on tickets.taken (tickets.page_end ∷ [])) ≡ snapshot_of (history_of tickets.ended)
  -- and so does a second session
  pub again : snapshot_of (gone_on budget.two (later ∷ budget.visit 3)) ≡ snapshot_of (history_of (budget.two ++ later ∷ budget.visit 3))
  -- the queue and the next answer are those of the whole
  pub same_queue : queue (gone_on budget.two (later ∷ [])) class_a ≡ queue (history_of (budget.two ++ later ∷ [])) class_a
  pub same_answer :
      answer budget.facts budget.files (gone_on budget.two (later ∷ [])) (moment + 86403000)
      ≡ answer budget.facts budget.files (history_of (budget.two ++ later ∷ [])) (moment + 86403000)
  -- the page goes first again, three seconds after the session
  pub waits : answer budget.facts budget.files (gone_on budget.two (later ∷ [])) (moment + 86402999) ≡ NotYet (Some (moment + 86403000))
