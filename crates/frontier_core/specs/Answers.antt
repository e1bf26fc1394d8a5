-- What the calls of the core answer.
use Rattle.std.specs.Prelude.{◌≡◌, ℕ, ◌+◌, ◌<◌, List, length}
use Rattle.crawl_kinds.specs.declared.event.Event.{Event}
use Rattle.crawl_kinds.specs.declared.event.Event.TheVariants.{Seeds}
use Rattle.core_facts.specs.CoreFacts.{Pages}
use Rattle.frontier_core.specs.Core.{Core, with_event, next_time, known_count, seed_adds}

-- seeds made this event, whatever the pages are
pub record IsSeeded (old new : Core) (list : List (List ℕ)) (now : ℕ) (e : Event) : Type 0 where
  pub event : (pages : Pages) → e ≡ Seeds (next_time old now) list (seed_adds old pages list)
  pub kept : new ≡ with_event old e

-- so many keys are known, so many would be added, and together that is more than the job allows
pub record IsFull (core : Core) (list : List (List ℕ)) (known adds : ℕ) : Type 0 where
  pub of_known : known ≡ known_count core
  pub of_adds : (pages : Pages) → adds ≡ length (seed_adds core pages list)
  pub more : core.settings.max_keys < known + adds
