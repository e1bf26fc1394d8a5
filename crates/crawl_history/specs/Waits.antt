-- The wait after a finish, and the wake of a class: the time from which on it may be asked again.
--     polite_wait s duration delay      the wait after a fetch of this duration
--     wait_after f a h c      the wait after the finish c, which h holds
--     wake f a h class      the wake of the class
use Rattle.std.specs.Prelude.{ℕ, ◌+◌, ◌*◌, min, max, nat_lt, List, Option, Some, None, unwrap_or, option_map, if◌then◌else◌, length}
use Rattle.crawl_kinds.specs.declared.settings.Settings.{Settings}
use Rattle.crawl_kinds.specs.declared.event.TheConstants.{MAX_MS}
use Rattle.crawl_kinds.specs.declared.event.Outcome.{Outcome}
use Rattle.crawl_kinds.specs.declared.event.Fetch.{Fetch}
use Rattle.crawl_kinds.specs.Event.{Finishing}
use Rattle.crawl_history.specs.Scans.{last_of}
use Rattle.crawl_history.specs.History.{History, session_finishes, session_emits, session_time, ticket_count}
use Rattle.crawl_history.specs.Queues.{in_class}
use Rattle.crawl_history.specs.Outcomes.{is_retry}
use Rattle.crawl_history.specs.Facts.{Facts, Archive}
use Rattle.crawl_history.specs.Robots.{RobotsState, robots_state}
use Rattle.crawl_history.specs.Verdicts.{delay_by}

-- a sum or product of times, cut at the latest time
abbrev pub capped : ℕ → ℕ
capped ms = min ms MAX_MS

-- the delay of a robots file in milliseconds, no longer than the job allows
abbrev pub delay_ms : Settings → Option ℕ → ℕ
delay_ms s None = 0
delay_ms s (Some seconds) = capped (min seconds s.max_crawl_delay_s * 1000)

-- so many times the duration, within the least and the greatest delay, and no less than the robots file asks
abbrev pub polite_wait : Settings → ℕ → Option ℕ → ℕ
polite_wait s duration delay =
    max (min (max (capped (s.delay_factor * duration)) s.min_delay_ms) s.max_delay_ms) (delay_ms s delay)

-- without a fetch there is no wait; before another try it is no less than the retry delay
abbrev pub wait_by : Facts → RobotsState → Outcome → Option Fetch → ℕ
wait_by f state outcome None = 0
wait_by f state outcome (Some fetch) =
    let polite = polite_wait f.settings fetch.duration (delay_by f state) in
    if is_retry outcome then max (capped (f.settings.retry_delay_s * 1000)) polite else polite

-- the wait after this finish, by the robots rules at its time
abbrev pub wait_after : Facts → Archive → History → Finishing → ℕ
wait_after f a h c = wait_by f (robots_state f a h c.item.class c.time) c.end.outcome c.end.fetch

-- the wake of a class without a finish in this session: a while after the session where anything went out before it
abbrev pub first_wake : Settings → History → ℕ
first_wake s h = if nat_lt (length (session_emits h)) (ticket_count h) then capped (session_time h + s.min_delay_ms) else 0

-- the last finish of the class in this session
abbrev pub last_finish : History → List ℕ → Option Finishing
last_finish h class = last_of (λ c. if in_class class c.item then Some c else None) (session_finishes h)

-- the last finish's time and its wait
abbrev pub wake : Facts → Archive → History → List ℕ → ℕ
wake f a h class =
    unwrap_or (option_map (λ c. capped (c.time + wait_after f a h c)) (last_finish h class)) (first_wake f.settings h)
