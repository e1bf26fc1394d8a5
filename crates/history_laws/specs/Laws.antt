-- The laws of a history, for any facts and any archive.
use Rattle.std.specs.Prelude.{IsTrue, filter, [], ◌≡◌, ◌≤◌, ℕ, Bool, true, false, ◌&&◌, is_none, List, length}
use Rattle.std.specs.List.{list_any, list_all, AllByRecursion}
use Rattle.crawl_kinds.specs.declared.event.Event.{Event}
use Rattle.crawl_kinds.specs.declared.snapshot.Snapshot.{Snapshot}
use Rattle.crawl_kinds.specs.Event.{adds_of, finish_of}
use Rattle.crawl_history.specs.History.{History, history_of, history_from, with_events}
use Rattle.crawl_history.specs.Places.{place_of, is_waiting, has_key, names_key}
use Rattle.crawl_history.specs.Queues.{has_add, queue}
use Rattle.crawl_history.specs.Tickets.{class_emits_out}
use Rattle.crawl_history.specs.Facts.{Facts, Archive}
use Rattle.crawl_history.specs.Emission.{is_empty}
use Rattle.crawl_history.specs.Snapshots.{snapshot_of}
use Rattle.crawl_history.specs.Steps.{Steps, Legal}
use Rattle.history_promises.specs.Complete.{times_queued, all_kept, Complete}
use Rattle.history_promises.specs.Polite.{all_timely, Polite}

-- no key waits twice in the snapshot, and each waits under an ordinal that was given
pub record WaitsOnce (base : Snapshot) : Type 0 where
  pub keys : (key : List ℕ) → length (filter (λ w. has_key key w.item) base.waiting) ≤ 1
  pub ordinals : AllByRecursion (λ w. w.ordinal ≤ base.ordinals) base.waiting

-- nothing that a legal history found is lost
pub record LegalIsComplete : Type 0 where
  pub complete : (f : Facts) (a : Archive) (events : List Event) → Legal f a events → Complete f a events
  -- nor what was found after a snapshot
  pub from_snapshot :
      (f : Facts) (a : Archive) (base : Snapshot) (events : List Event) → WaitsOnce base → Steps f a (history_from base []) events
      → IsTrue (all_kept f a (history_from base events) (history_from base []) events)

-- no legal history asks a host too early, or twice at once
pub record LegalIsPolite : Type 0 where
  pub polite : (f : Facts) (a : Archive) (events : List Event) → Legal f a events → Polite f a events
  -- nor one that goes on from a snapshot
  pub from_snapshot :
      (f : Facts) (a : Archive) (base : Snapshot) (events : List Event) → Steps f a (history_from base []) events
      → IsTrue (all_timely f a (history_from base []) events)

-- a key that waits stands in the queues once, and every other key in none
pub record QueuesHoldOnce : Type 0 where
  pub none : (h : History) (key : List ℕ) → is_waiting (place_of h key) ≡ false → times_queued h key ≡ 0
  -- in every history in which it was added
  pub once : (h : History) (key : List ℕ) → WaitsOnce h.base → is_waiting (place_of h key) ≡ true → has_add h key ≡ true → times_queued h key ≡ 1
  -- and so in every legal one, from the start or from a snapshot
  pub legal :
      (f : Facts) (a : Archive) (events : List Event) → Legal f a events
      → (key : List ℕ) → is_waiting (place_of (history_of events) key) ≡ true → times_queued (history_of events) key ≡ 1
  pub from_snapshot :
      (f : Facts) (a : Archive) (base : Snapshot) (events : List Event) → WaitsOnce base → Steps f a (history_from base []) events
      → (key : List ℕ) → is_waiting (place_of (history_from base events) key) ≡ true → times_queued (history_from base events) key ≡ 1
  -- the snapshot of every such history is one that a history may go on from
  pub snapshot : (h : History) → WaitsOnce h.base → WaitsOnce (snapshot_of h)

-- whether the event neither adds nor finishes any key, as an emit and a session
abbrev pub names_nothing : Event → Bool
names_nothing e = is_empty (adds_of e) && is_none (finish_of e)

-- what no event names stays as it was
pub record UnnamedStays : Type 0 where
  -- the place of a key that none of the further events names
  pub place :
      (h : History) (more : List Event) (key : List ℕ)
      → list_any (names_key key) more ≡ false → place_of (with_events h more) key ≡ place_of h key
  -- every queue, where the further events name no key at all
  pub queues :
      (h : History) (more : List Event) (class : List ℕ)
      → list_all names_nothing more ≡ true → queue (with_events h more) class ≡ queue h class

-- no class has two emits out, in a legal history or one that goes on from a snapshot
pub record NoneOutTwice : Type 0 where
  pub legal :
      (f : Facts) (a : Archive) (events : List Event) → Legal f a events
      → (class : List ℕ) → length (class_emits_out (history_of events) class) ≤ 1
  pub from_snapshot :
      (f : Facts) (a : Archive) (base : Snapshot) (events : List Event) → Steps f a (history_from base []) events
      → (class : List ℕ) → length (class_emits_out (history_from base events) class) ≤ 1
