-- A history: a snapshot, and the events after it, oldest first.
--     history_of events      these events from the start, after the empty snapshot
--     history_from base events      these events after a snapshot
--     with_event h e, with_events h es      the history with one more event, and with several
--     finishes h      every finish of the events
--     session_emits h, session_finishes h      those after the last session
--     last_time h, session_time h, first_time h      the greatest time, that of the last session and of the first
--     ticket_count h      how many tickets were given
use Rattle.std.specs.Prelude.{ℕ, ◌+◌, max, Bool, List, [], ◌∷◌, ◌++◌, None, is_some, unwrap_or, length, fold, if◌then◌else◌, ◌==◌, filter_map}
use Rattle.crawl_kinds.specs.declared.snapshot.Snapshot.{Snapshot}
use Rattle.crawl_kinds.specs.declared.event.Event.{Event}
use Rattle.crawl_kinds.specs.Event.{time_of, session_of, emit_of, finish_of, Emission, Finishing}
use Rattle.crawl_history.specs.Scans.{last_of, after_last, first_of}

-- what a snapshot keeps of the earlier events, and the events after it
pub record History : Type 0 where
  pub base : Snapshot
  pub events : List Event

-- the snapshot of no events
abbrev pub empty_snapshot : Snapshot
empty_snapshot =
    record {
      events = 0;
      time = 0;
      tickets = 0;
      ordinals = 0;
      end = None;
      pages = 0;
      bytes = 0;
      first = 0;
      finished = [];
      waiting = [];
      spent = [];
      tickets_out = [];
    }

-- the history of these events after a snapshot
abbrev pub history_from : Snapshot → List Event → History
history_from base events = record { base = base; events = events }

-- the history of these events from the start
abbrev pub history_of : List Event → History
history_of events = history_from empty_snapshot events

-- the history with one more event
abbrev pub with_event : History → Event → History
with_event h e = record { base = h.base; events = h.events ++ e ∷ [] }

-- the history with further events
abbrev pub with_events : History → List Event → History
with_events h es = record { base = h.base; events = h.events ++ es }

-- whether a session begins
abbrev pub is_session : Event → Bool
is_session e = is_some (session_of e)

-- the events after the last session
abbrev pub session_events : History → List Event
session_events h = after_last is_session h.events

-- the emits after the last session
abbrev pub session_emits : History → List Emission
session_emits h = filter_map emit_of (session_events h)

-- the finishes after the last session
abbrev pub session_finishes : History → List Finishing
session_finishes h = filter_map finish_of (session_events h)

-- every finish of the events
abbrev pub finishes : History → List Finishing
finishes h = filter_map finish_of h.events

-- the greatest time
abbrev pub last_time : History → ℕ
last_time h = fold (λ t e. max t (time_of e)) h.base.time h.events

-- the time of the last session among the events
abbrev pub session_time : History → ℕ
session_time h = unwrap_or (last_of session_of h.events) 0

-- the time of the first session of all
abbrev pub first_time : History → ℕ
first_time h = if h.base.events == 0 then unwrap_or (first_of (filter_map session_of h.events)) 0 else h.base.first

-- how many tickets were given: one to each emit
abbrev pub ticket_count : History → ℕ
ticket_count h = h.base.tickets + length (filter_map emit_of h.events)
