-- That what is kept of robots files is what the history says of them.
--     Stands pages a core      verdicts and delays by what the core keeps are those of its history
--     HasNoRobots events      no robots file came or failed in the last session
--     Leaves f a c kept      what is to be kept of the end of a robots file
--     LeavesEnd f a c kept      what is to be kept of any end
--     EndsWith old new e class kept      with one event more, this is kept of the class
use Rattle.std.specs.Prelude.{◌≡◌, ℕ, true, false, ◌&&◌, List, [], ◌∷◌, ◌++◌, bytes_eq, Option, Some, None, if◌then◌else◌}
use Rattle.crawl_kinds.specs.declared.event.Event.{Event}
use Rattle.crawl_kinds.specs.declared.event.Event.TheVariants.{Session}
use Rattle.crawl_kinds.specs.Event.{Finishing, finish_of}
use Rattle.crawl_history.specs.Facts.{Facts, Archive}
use Rattle.crawl_history.specs.History.{history_of, is_session}
use Rattle.crawl_history.specs.Outcomes.{is_prerequisite, is_success_or_failure}
use Rattle.crawl_history.specs.Robots.{RobotsState, robots_finish, robots_state, state_by}
use Rattle.crawl_history.specs.Verdicts.{verdict_by, delay_by}
use Rattle.core_facts.specs.CoreFacts.{Pages}
use Rattle.frontier_core.specs.Core.{Core, facts, history, robots_at, with_event}
use Rattle.frontier_core.specs.Robots.{kept_verdict, kept_delay}
use Rattle.frontier_core.specs.declared.robots.KeptRobots.{KeptRobots}

-- what is kept of a class says at every time what the states of the class say
pub record SaysSame (f : Facts) (state : ℕ → RobotsState) (kept : Option KeptRobots) : Type 0 where
  pub verdicts : (t : ℕ) (uri : List ℕ) → verdict_by f uri (state t) ≡ kept_verdict kept t uri
  pub delays : (t : ℕ) → delay_by f (state t) ≡ kept_delay kept t

-- and so for every class
abbrev pub Stands : Pages → Archive → Core → Type 0
Stands pages a core =
    (class : List ℕ) → SaysSame (facts core pages) (robots_state (facts core pages) a (history core) class) (robots_at core class)

-- no robots file came or failed in the last session
abbrev pub HasNoRobots : List Event → Type 0
HasNoRobots events = (class : List ℕ) → robots_finish (history_of events) class ≡ None

-- what is to be kept of the end of a robots file: nothing where that tells nothing, and else what says the same from then on
abbrev pub Leaves : Facts → Archive → Finishing → Option KeptRobots → Type 0
Leaves f a c None = is_success_or_failure c.end.outcome ≡ false
Leaves f a c (Some kept) = (is_success_or_failure c.end.outcome ≡ true) × SaysSame f (λ t. state_by f a t (Some c)) (Some kept)

-- what is to be kept of any end: nothing where it is that of no robots file, or tells nothing
abbrev pub LeavesEnd : Facts → Archive → Finishing → Option KeptRobots → Type 0
LeavesEnd f a c None = (is_prerequisite c.item && is_success_or_failure c.end.outcome) ≡ false
LeavesEnd f a c (Some kept) =
    ((is_prerequisite c.item && is_success_or_failure c.end.outcome) ≡ true) × SaysSame f (λ t. state_by f a t (Some c)) (Some kept)

-- what is kept of the class q once something is kept of a class, or nothing anew
abbrev pub kept_over : Option KeptRobots → List ℕ → List ℕ → Option KeptRobots → Option KeptRobots
kept_over None class q before = before
kept_over (Some kept) class q before = if bytes_eq class q then Some kept else before

-- the event is put behind the others, this is kept of the class, and all else stays
pub record EndsWith (old new : Core) (e : Event) (class : List ℕ) (kept : Option KeptRobots) : Type 0 where
  pub events : new.events ≡ old.events ++ e ∷ []
  pub settings : new.settings ≡ old.settings
  pub scope : new.scope ≡ old.scope
  pub robots : (q : List ℕ) → robots_at new q ≡ kept_over kept class q (robots_at old q)

-- what follows from the definitions
pub record StandingLaws : Type 0 where
  -- a session begins without robots files
  pub fresh : (events : List Event) (time : ℕ) (job : List ℕ) (format : ℕ) → HasNoRobots (events ++ Session time job format ∷ [])
  -- seeds and emits change nothing
  pub still :
      (pages : Pages) (a : Archive) (core : Core) (e : Event) → is_session e ≡ false → finish_of e ≡ None
      → Stands pages a core → Stands pages a (with_event core e)
