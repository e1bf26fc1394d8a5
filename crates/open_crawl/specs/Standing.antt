-- A crawl that is opened, and what a crash leaves of its journal.
--     StandsFor of own volume events      its core and its journal have these events
--     HoldsBegun, HoldsSeeded      what a journal holds after a crash in the midst of an opening, or of an adding of seeds
use Rattle.std.specs.Prelude.{◌≡◌, ◌⊎◌, ℕ, List, [], ◌∷◌, ◌++◌}
use Rattle.crawl_kinds.specs.declared.settings.Settings.{Settings}
use Rattle.crawl_kinds.specs.declared.event.Event.{Event}
use Rattle.crawl_traits.specs.declared.volume.Volume.{Ghosts}
use Rattle.scope_spec.specs.Decision.{ScopeRules}
use Rattle.job_order.specs.declared.read.Job.{Job}
use Rattle.recover_journal.specs.Holds.{HoldsEvents}
use Rattle.recover_journal.specs.Rest.{Rests}
use Rattle.open_crawl.specs.Opening.{AddsSeeds, Begins}
use Rattle.open_crawl.specs.declared.opening.OpenCrawl.{OpenCrawl}

-- the core has these events, and the journal holds them, on the disk
pub record StandsFor {V : Type 0} (of : Ghosts V) (own : OpenCrawl) (volume : V) (events : List Event) : Type 0 where
  pub core : own.frontier.events ≡ events
  pub journal : Rests of own.journal volume events

-- a file that held these events holds them, or them and what opening adds
abbrev pub HoldsBegun : Job → ℕ → List Event → List ℕ → List ℕ → Type 0
HoldsBegun job moment events before after =
    HoldsEvents events after ⊎ ((new : List Event) × Begins job moment events new × HoldsEvents (events ++ new) after)

-- a file that held these events holds them, or them and the event of these seeds
abbrev pub HoldsSeeded : Settings → ScopeRules → List Event → List (List ℕ) → ℕ → List ℕ → List ℕ → Type 0
HoldsSeeded settings scope events list moment before after =
    HoldsEvents events after ⊎ ((e : Event) × AddsSeeds settings scope events list moment e × HoldsEvents (events ++ e ∷ []) after)
