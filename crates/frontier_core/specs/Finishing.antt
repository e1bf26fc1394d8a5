-- What the end of an item that was handed out makes.
--     finish_by core one end now adds, finish_event c      its finish, and the event of a finish
--     IsEnded old new one end now e      it came to its end, as one event more
--     IsFullFor core one end now links known adds      more keys would be known than the job allows
--     Shows f a c links payload      what was handed in with the end is what the pages show
--     IsFinished pages a old new one c      what a finish is, over pages that show it
use Rattle.std.specs.Prelude.{◌≡◌, ℕ, ◌+◌, ◌<◌, true, List, [], ◌∷◌, ◌++◌, IsTrue}
use Rattle.crawl_kinds.specs.declared.event.End.{End}
use Rattle.crawl_kinds.specs.declared.event.Event.{Event}
use Rattle.crawl_kinds.specs.declared.event.Event.TheVariants.{Finish}
use Rattle.crawl_kinds.specs.declared.event.Outcome.TheVariants.{Success}
use Rattle.crawl_kinds.specs.declared.item.Item.{Item}
use Rattle.crawl_kinds.specs.Event.{Finishing, adds_of}
use Rattle.crawl_history.specs.Adds.{finish_adds}
use Rattle.crawl_history.specs.Citations.{IsPlacedNext}
use Rattle.crawl_history.specs.Counts.{try_number}
use Rattle.crawl_history.specs.Ends.{Suits}
use Rattle.crawl_history.specs.Facts.{Facts, Archive}
use Rattle.crawl_history.specs.Outcomes.{is_prerequisite}
use Rattle.crawl_history.specs.Robots.{cited_block}
use Rattle.crawl_history.specs.Steps.{Legal, Step}
use Rattle.core_facts.specs.CoreFacts.{Pages}
use Rattle.core_facts.specs.ValidEvent.{is_end}
use Rattle.extract_spec.specs.declared.found.Found.{Found}
use Rattle.frontier_adds.specs.Shown.{ShowsLinks}
use Rattle.frontier_core.specs.Core.{Core, absent_count, facts, history, known_count, next_time}
use Rattle.frontier_core.specs.Standing.{Stands}
use Rattle.frontier_core.specs.declared.emitted.Emitted.{Emitted}
use Rattle.frontier_memo.specs.Fits.{Fits}

-- its finish at a moment, with this end and these adds
abbrev pub finish_by : Core → Emitted → End → ℕ → List Item → Finishing
finish_by core one end now adds =
    record { time = next_time core now; caller = one.caller; ticket = one.ticket; item = one.work.item; end = end; adds = adds }

-- the event of a finish
abbrev pub finish_event : Finishing → Event
finish_event c = Finish c.time c.caller c.ticket c.item c.end c.adds

-- its finish is put behind the other events; settings and scope stay
pub record IsEnded (old new : Core) (one : Emitted) (end : End) (now : ℕ) (e : Event) : Type 0 where
  pub event : e ≡ finish_event (finish_by old one end now (adds_of e))
  pub events : new.events ≡ old.events ++ e ∷ []
  pub settings : new.settings ≡ old.settings
  pub scope : new.scope ≡ old.scope
  pub fits : Fits (history old) e

-- so many keys are known, so many of the keys that it adds are nowhere, and together that is more than the job allows
pub record IsFullFor (core : Core) (one : Emitted) (end : End) (now : ℕ) (links : List Found) (known adds : ℕ) : Type 0 where
  pub of_known : known ≡ known_count core
  pub of_adds :
      (pages : Pages) (a : Archive) (items : List Item) → ShowsLinks (facts core pages) a (finish_by core one end now items) links
      → adds ≡ absent_count core (finish_adds (facts core pages) a (history core) (finish_by core one end now items) one.work.verdict)
  pub more : core.settings.max_keys < known + adds

-- links and payload are those of the response that the finish cites
pub record Shows (f : Facts) (a : Archive) (c : Finishing) (links : List Found) (payload : List ℕ) : Type 0 where
  pub found : ShowsLinks f a c links
  pub text : c.end.outcome ≡ Success → is_prerequisite c.item ≡ true → payload ≡ f.payload (cited_block a c.end.body)

-- the end suits the work and can be spelled, and what was recorded stands at the next place
pub record MayEnd (pages : Pages) (a : Archive) (core : Core) (one : Emitted) (c : Finishing) : Type 0 where
  pub suits : Suits (facts core pages) a (try_number (history core) one.work.item.key) one.work.item c.end one.work.verdict
  pub spot : IsPlacedNext (facts core pages) a (history core) c c.end.body
  pub valid : IsTrue (is_end c.end)

-- it adds what such a finish adds, is one step of a legal history, and what is kept of robots files still says the same
pub record IsFinished (pages : Pages) (a : Archive) (old new : Core) (one : Emitted) (c : Finishing) : Type 0 where
  pub adds : c.adds ≡ finish_adds (facts old pages) a (history old) c one.work.verdict
  pub step : Legal (facts old pages) a old.events → MayEnd pages a old one c → Step (facts old pages) a (history old) (finish_event c)
  pub stands : Stands pages a old → Stands pages a new
