-- What follows for a crawl that is opened and goes on.
--     OpeningGoesOn      what opening adds to a legal history is legal
--     VisitsAreHeld link gives      every archive of the WARC files has the visits whose records they hold
use Rattle.std.specs.Prelude.{◌≡◌, ℕ, List, [], ◌∷◌, ◌++◌, length, All}
use Rattle.crawl_kinds.specs.Address.{IsUri}
use Rattle.crawl_kinds.specs.declared.event.Event.{Event}
use Rattle.crawl_traits.specs.declared.link.Link.{Ghosts}
use Rattle.crawl_history.specs.Facts.{Archive}
use Rattle.crawl_history.specs.Steps.{Legal}
use Rattle.core_facts.specs.CoreFacts.{Pages, facts_with}
use Rattle.crawl_facts.specs.Archives.{IsArchive}
use Rattle.frontier_core.specs.Core.{Core}
use Rattle.job_order.specs.declared.read.Job.{Job}
use Rattle.open_crawl.specs.JobFile.{IsTextOfJob}
use Rattle.open_crawl.specs.Opening.{Begins}
use Rattle.recover_journal.specs.Holds.{HoldsEvents}
use Rattle.visit_laws.specs.Laws.{Stretch, world_in}
use Rattle.visit_spec.specs.Crawled.{next_place}
use Rattle.visit_spec.specs.Visits.{AreVisits, HoldsVisits, Visit, events, warc}

-- a session, and the job's seeds where there was nothing, are steps behind a legal history, whatever pages and archive are
abbrev pub OpeningGoesOn : Type 0
OpeningGoesOn =
    (text : List ℕ) (job : Job) (moment : ℕ) (held new : List Event) (pages : Pages) (a : Archive)
    → IsTextOfJob text job → All IsUri job.seeds → Begins job moment held new
    → Legal (facts_with job.settings (job.scope ∷ []) pages) a held → Legal (facts_with job.settings (job.scope ∷ []) pages) a (held ++ new)

-- Visits of which a journal holds the events, and whose records stand in the WARC file behind all that was there: every
-- archive of the WARC files, by their numbers, has the blocks of these records.
abbrev pub VisitsAreHeld : {C L : Type 0} → Ghosts L → (C → ℕ → Type 0) → Type 0
VisitsAreHeld {C} {L} link gives =
    (time : Stretch C L) (old new : Core) (visits : List Visit) (held : List Event) (journal before : List ℕ) (files : ℕ → List ℕ) (a : Archive)
    → AreVisits (world_in link gives time) old new visits
    → HoldsEvents (held ++ events visits) journal
    → files (next_place old).file ≡ before ++ warc visits → length before ≡ (next_place old).end
    → IsArchive old.settings files a
    → HoldsVisits a visits
