-- No host is asked before its time, and none twice at once. Nothing here speaks of queues or wakes.
--     is_timely f a h m      the emit m may stand after h
--     Polite f a events      each emit may stand after the events before it
use Rattle.std.specs.Prelude.{ℕ, ◌+◌, Bool, true, false, ◌&&◌, nat_le, nat_lt, ◌==◌, List, [], ◌∷◌, Option, Some, None, length, IsTrue, if◌then◌else◌}
use Rattle.crawl_kinds.specs.declared.event.Event.{Event}
use Rattle.crawl_kinds.specs.Event.{Emission, Finishing, emit_of, finish_of}
use Rattle.crawl_history.specs.Scans.{last_of, through}
use Rattle.crawl_history.specs.History.{History, history_from, history_of, with_event, session_emits, session_time, ticket_count}
use Rattle.crawl_history.specs.Queues.{in_class}
use Rattle.crawl_history.specs.Facts.{Facts, Archive}
use Rattle.crawl_history.specs.Waits.{wait_after, capped}

-- whether this is the finish of the ticket
abbrev pub has_ticket : ℕ → Option Finishing → Bool
has_ticket ticket None = false
has_ticket ticket (Some c) = c.ticket == ticket

-- the time from which on the class may be asked again after the finish that ends the history h
abbrev pub due_after : Facts → Archive → History → Option Finishing → ℕ
due_after f a h None = 0
due_after f a h (Some c) = capped (c.time + wait_after f a h c)

-- whether the finish is there and its wait, reckoned by the events up to it, is over
abbrev pub is_due : Facts → Archive → History → ℕ → Option (List Event) → Bool
is_due f a h time None = false
is_due f a h time (Some es) =
    nat_le (due_after f a (history_from h.base es) (last_of finish_of es)) time

-- the last emit of the class in this session
abbrev pub emit_before : History → List ℕ → Option Emission
emit_before h class = last_of (λ m. if in_class class m.item then Some m else None) (session_emits h)

-- after an emit of the class its finish must be due; the first of a session waits a while, unless nothing went out before
abbrev pub is_timely_after : Facts → Archive → History → ℕ → Option Emission → Bool
is_timely_after f a h time (Some m) = is_due f a h time (through (λ e. has_ticket m.ticket (finish_of e)) h.events)
is_timely_after f a h time None =
    if nat_lt (length (session_emits h)) (ticket_count h)
    then nat_le (capped (session_time h + f.settings.min_delay_ms)) time
    else true

-- whether the emit may stand after h
abbrev pub is_timely : Facts → Archive → History → Option Emission → Bool
is_timely f a h None = true
is_timely f a h (Some m) = is_timely_after f a h m.time (emit_before h m.item.class)

-- whether each of the events may stand, from h on
abbrev pub all_timely : Facts → Archive → History → List Event → Bool
all_timely f a h [] = true
all_timely f a h (e ∷ es) = is_timely f a h (emit_of e) && all_timely f a (with_event h e) es

-- each emit may stand after the events before it
abbrev pub Polite : Facts → Archive → List Event → Type 0
Polite f a events = IsTrue (all_timely f a (history_of []) events)
