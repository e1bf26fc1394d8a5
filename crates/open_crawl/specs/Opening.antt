-- What is put behind the events of a crawl where it is opened, and where seeds are added.
--     time_after events moment      the time of an event that comes at a moment
--     next_session settings events moment      a session of the job, behind these events
--     AddsSeeds ..      an event is that of these seeds
--     Begins job moment events new      opening adds a session and, where there was nothing, the job's seeds
--     IsTooMany ..      the seeds would add more keys than there is room for
--     FitsBlock events      the events can stand in one block
use Rattle.std.specs.Prelude.{◌≡◌, ℕ, ◌+◌, ◌<◌, ◌≤◌, min, max, List, [], ◌∷◌, length}
use Rattle.std.specs.List.{AllByRecursion, flat_map}
use Rattle.crawl_kinds.specs.declared.settings.Settings.{Settings}
use Rattle.crawl_kinds.specs.declared.item.Item.{Item}
use Rattle.crawl_kinds.specs.declared.event.TheConstants.{MAX_MS}
use Rattle.crawl_kinds.specs.declared.event.Event.{Event}
use Rattle.crawl_kinds.specs.declared.event.Event.TheVariants.{Session, Seeds}
use Rattle.scope_spec.specs.Decision.{ScopeRules}
use Rattle.crawl_history.specs.History.{history_of, last_time}
use Rattle.crawl_history.specs.Places.{known_keys}
use Rattle.crawl_history.specs.Adds.{seed_candidates, new_items}
use Rattle.core_facts.specs.CoreFacts.{Pages, facts_with}
use Rattle.job_order.specs.declared.read.Job.{Job}
use Rattle.journal_spec.specs.Journal.{spelling}
use Rattle.journal_valid.specs.Valid.{IsEvent}

-- a moment, cut at the latest one, and no earlier than any event
abbrev pub time_after : List Event → ℕ → ℕ
time_after events moment = max (last_time (history_of events)) (min moment MAX_MS)

-- a session of the job behind these events, in format 1
abbrev pub next_session : Settings → List Event → ℕ → Event
next_session settings events moment = Session (time_after events moment) settings.name 1

-- the items that seeds add: those that the scope takes and whose key is nowhere, each key once
abbrev pub added : Settings → ScopeRules → Pages → List Event → List (List ℕ) → List Item
added settings scope pages events list =
    new_items (facts_with settings (scope ∷ []) pages) (history_of events) (seed_candidates (facts_with settings (scope ∷ []) pages) list)

-- the event of these seeds, whatever the pages are
abbrev pub AddsSeeds : Settings → ScopeRules → List Event → List (List ℕ) → ℕ → Event → Type 0
AddsSeeds settings scope events list moment e =
    (pages : Pages) → e ≡ Seeds (time_after events moment) list (added settings scope pages events list)

-- the first session, and the event of the job's seeds
pub record BeginsAnew (job : Job) (moment : ℕ) (new : List Event) : Type 0 where
  pub seeds : Event
  pub adds : AddsSeeds job.settings job.scope (next_session job.settings [] moment ∷ []) job.seeds moment seeds
  pub is : new ≡ next_session job.settings [] moment ∷ seeds ∷ []

-- a session and, where there was nothing, the job's seeds
abbrev pub Begins : Job → ℕ → List Event → List Event → Type 0
Begins job moment [] new = BeginsAnew job moment new
Begins job moment (e ∷ events) new = new ≡ next_session job.settings (e ∷ events) moment ∷ []

-- so many keys are known and so many would be added, together more than the job allows
pub record IsTooMany (settings : Settings) (scope : ScopeRules) (events : List Event) (list : List (List ℕ)) (known adds : ℕ) : Type 0 where
  pub of_known : known ≡ length (known_keys (history_of events))
  pub of_adds : (pages : Pages) → adds ≡ length (added settings scope pages events list)
  pub more : settings.max_keys < known + adds

-- one or more valid events, whose lines are short enough together
pub record FitsBlock (events : List Event) : Type 0 where
  pub some : 1 ≤ length events
  pub valid : AllByRecursion IsEvent events
  pub short : length (flat_map spelling events) ≤ 2000000000
