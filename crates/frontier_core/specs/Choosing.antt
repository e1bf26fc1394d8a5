-- Which of what waits goes next, by what is kept.
--     kept_wake s session robots class      from when on the class may be asked
--     IsLeast s wakes h kept choice      of what is kept, which goes first of what may go
--     answer_by next, IsReady h next      what is to be answered, and that it may be
use Rattle.std.specs.Prelude.{◌≡◌, ℕ, ◌+◌, ◌*◌, max, true, false, nat_lt, List, Contains, Option, Some, None, IfSome, option_map, unwrap_or, if◌then◌else◌}
use Rattle.std.specs.List.{AllByRecursion}
use Rattle.std.specs.Ordering.{nat_cmp, is_lt, ordering_then}
use Rattle.std.specs.declared.cmp.Ordering.{Ordering}
use Rattle.crawl_kinds.specs.declared.event.Fetch.{Fetch}
use Rattle.crawl_kinds.specs.declared.event.Outcome.{Outcome}
use Rattle.crawl_kinds.specs.declared.settings.Settings.{Settings}
use Rattle.crawl_history.specs.Counts.{vain_tries}
use Rattle.crawl_history.specs.Emission.{Answer, Gives, NotYet, Over}
use Rattle.crawl_history.specs.History.{History, ticket_count}
use Rattle.crawl_history.specs.Outcomes.{is_retry}
use Rattle.crawl_history.specs.Queues.{Add}
use Rattle.crawl_history.specs.Waits.{capped, polite_wait}
use Rattle.emission_laws.specs.Choice.{may_go, goes_first}
use Rattle.frontier_core.specs.Kept.{add_in}
use Rattle.frontier_core.specs.Robots.{kept_delay}
use Rattle.frontier_core.specs.Waiting.{queue_order}
use Rattle.frontier_core.specs.declared.choosing.Choice.{Choice}
use Rattle.frontier_core.specs.declared.choosing.Next.{Next}
use Rattle.frontier_core.specs.declared.choosing.Next.TheVariants as next
use Rattle.frontier_core.specs.declared.robots.KeptRobots.{KeptRobots}
use Rattle.frontier_memo.specs.Fits.{EmitFits}
use Rattle.frontier_memo.specs.Keeping.{add_of}
use Rattle.frontier_memo.specs.Sums.{last_at, saturated}
use Rattle.frontier_memo.specs.declared.known.Known.{Known}
use Rattle.frontier_memo.specs.declared.known.Known.TheVariants as known
use Rattle.frontier_memo.specs.declared.known.Waiting.{Waiting}
use Rattle.frontier_memo.specs.declared.session.Last.{Last}
use Rattle.frontier_memo.specs.declared.session.SessionMemo.{SessionMemo}

-- the wait after a finish, by the delay that the robots file asks for
abbrev pub kept_wait : Settings → Option ℕ → Outcome → Option Fetch → ℕ
kept_wait s delay outcome None = 0
kept_wait s delay outcome (Some fetch) =
    if is_retry outcome
    then max (capped (s.retry_delay_s * 1000)) (polite_wait s fetch.duration delay)
    else polite_wait s fetch.duration delay

-- the wake after the last finish of a class
abbrev pub wake_after : Settings → Option KeptRobots → Last → ℕ
wake_after s robots last = capped (last.time + kept_wait s (kept_delay robots last.time) last.outcome last.fetch)

-- without one, a while after the session where anything went out before it
abbrev pub wake_before : Settings → SessionMemo → ℕ
wake_before s session = if nat_lt 0 session.earlier then capped (session.start + s.min_delay_ms) else 0

-- from when on the class may be asked
abbrev pub kept_wake : Settings → SessionMemo → (List ℕ → Option KeptRobots) → List ℕ → ℕ
kept_wake s session robots class =
    unwrap_or (option_map (wake_after s (robots class)) (last_at session.last class)) (wake_before s session)

-- the add that is chosen
abbrev pub chosen_add : Choice → Add
chosen_add choice = add_of choice.own.now

-- by wake, class, rank and ordinal
abbrev pub choice_order : Choice → Choice → Ordering
choice_order x y = ordering_then (nat_cmp x.wake y.wake) (queue_order (chosen_add x) (chosen_add y))

-- of two the one that goes first
abbrev pub first_of_two : Option Choice → Option Choice → Option Choice
first_of_two None next = next
first_of_two (Some best) None = Some best
first_of_two (Some best) (Some next) = if is_lt (choice_order next best) then Some next else Some best

-- it is one of these and may go at its wake, and none of them that may go goes before it
pub record IsFirst (s : Settings) (wakes : List ℕ → ℕ) (h : History) (kept : List Known) (choice : Choice) : Type 0 where
  pub one : Contains kept (known.Waits choice.own.now)
  pub may : may_go s h (chosen_add choice) ≡ true
  pub wake : choice.wake ≡ wakes choice.own.now.item.class
  pub first : AllByRecursion (λ k. IfSome (add_in k) (λ y. may_go s h y ≡ true → goes_first wakes y (chosen_add choice) ≡ false)) kept

-- of these it goes first, or none may go
abbrev pub IsLeast : Settings → (List ℕ → ℕ) → History → List Known → Option Choice → Type 0
IsLeast s wakes h kept None = AllByRecursion (λ k. IfSome (add_in k) (λ y. may_go s h y ≡ false)) kept
IsLeast s wakes h kept (Some choice) = IsFirst s wakes h kept choice

-- what waits may go at its wake, or it may not
abbrev pub IsCandidate : Settings → (List ℕ → ℕ) → History → Known → Option Choice → Type 0
IsCandidate s wakes h (known.Waits w) None = may_go s h (add_of w) ≡ false
IsCandidate s wakes h (known.Waits w) (Some choice) = (choice.own.now ≡ w) × (may_go s h (add_of w) ≡ true) × (choice.wake ≡ wakes w.item.class)
IsCandidate s wakes h (known.Done code) None = Unit {0}
IsCandidate s wakes h (known.Done code) (Some choice) = ⊥

-- what is to be answered: an item that goes, nothing before some time, or over
abbrev pub answer_by : Next → Answer
answer_by (next.Go own) = Gives own.now.item
answer_by (next.Wait time) = NotYet time
answer_by next.Over = Over

-- what goes waits under its key, so that it may be handed out under the next ticket, and was tried in vain so often
pub record GoesOut (h : History) (own : Waiting) : Type 0 where
  pub fits : EmitFits h (ticket_count h + 1) own.item
  pub tries : own.tries ≡ saturated (vain_tries h own.item.key)

-- and so, where something goes
abbrev pub IsReady : History → Next → Type 0
IsReady h (next.Go own) = GoesOut h own.now
IsReady h (next.Wait time) = Unit {0}
IsReady h next.Over = Unit {0}
