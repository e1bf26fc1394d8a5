-- What a crawl leaves: its history, the journal, the WARC file, the output, and what went over the link.
--     GoesOn old visits      whatever the pages and the archive are, a legal history goes on as one
--     IsOver gives core      at a moment of the clock nothing will go any more
--     Keeps ..      visits are recorded, in order
--     IsRefused ..      the end of an item would add more keys than the job allows
use Rattle.std.specs.Prelude.{◌≡◌, ◌≢◌, ℕ, IsTrue, List, ◌++◌, take, true, Option}
use Rattle.crawl_kinds.specs.declared.event.Body.{Body}
use Rattle.crawl_kinds.specs.declared.event.Event.{Event}
use Rattle.crawl_kinds.specs.declared.snapshot.Edge.{Edge}
use Rattle.crawl_traits.specs.Images.{Image}
use Rattle.crawl_traits.specs.declared.file.FileId.{FileId}
use Rattle.crawl_traits.specs.declared.file.FileId.TheVariants.{Warc}
use Rattle.crawl_traits.specs.declared.link.Exchange.{Exchange}
use Rattle.crawl_traits.specs.declared.volume.Volume.{Ghosts}
use Rattle.crawl_history.specs.Citations.{cited_end}
use Rattle.crawl_history.specs.Emission.{is_over}
use Rattle.crawl_history.specs.Facts.{Archive}
use Rattle.crawl_history.specs.Steps.{Legal}
use Rattle.core_facts.specs.CoreFacts.{Pages}
use Rattle.crawl_facts.specs.Pages.{ArePages, place_after}
use Rattle.frontier_core.specs.Core.{Core, facts, history, next_time}
use Rattle.frontier_core.specs.Emitting.{IsOut}
use Rattle.frontier_core.specs.Finishing.{IsFullFor}
use Rattle.frontier_core.specs.Standing.{Stands}
use Rattle.frontier_core.specs.declared.emitted.Emitted.{Emitted}
use Rattle.process_chains.specs.Done.{Done, IsDone}
use Rattle.process_chains.specs.Endings.{end_with}
use Rattle.process_chains.specs.Ends.{Ends, World}
use Rattle.visit_spec.specs.Recorded.{IsRecorded}
use Rattle.recover_journal.specs.Holds.{journal_file}
use Rattle.recover_journal.specs.Rest.{Rests}
use Rattle.recover_journal.specs.declared.journal.Journal.{Journal}
use Rattle.visit_spec.specs.Visits.{AreVisits, HoldsVisits, Visit, events, exchanges, log, warc}

-- where the next record of a core goes, and the WARC file of a place
abbrev pub next_place : Core → Edge
next_place core = place_after (cited_end (history core))

abbrev pub warc_file : Edge → FileId
warc_file place = Warc place.file

-- but for the journal and this WARC file, all files are as before
abbrev pub Others : FileId → Image → Image → Type 0
Others file before after = (f : FileId) → f ≢ journal_file → f ≢ file → after f ≡ before f

-- for all pages that agree with the definitions, and all archives that hold what was recorded: a legal history is legal
-- with the events of the visits, and what the core keeps still says the same. So it is complete and polite.
abbrev pub GoesOn : Core → Core → List Visit → Type 0
GoesOn old new visits =
    (pages : Pages) (a : Archive) → ArePages old.settings pages → HoldsVisits a visits → Stands pages a old → Legal (facts old pages) a old.events
    → Stands pages a new × Legal (facts new pages) a (old.events ++ events visits)

-- at a moment of the clock nothing will go any more, whatever pages and archive are
pub record IsOver (gives : ℕ → Type 0) (core : Core) : Type 0 where
  pub moment : ℕ
  pub given : gives moment
  pub over : (pages : Pages) (a : Archive) → Stands pages a core → is_over (facts core pages) a (history core) (next_time core moment) ≡ true

-- The visits were made and recorded. Journal and core have their events behind those that were held; the WARC file has their
-- records behind the last cited one, from which anything behind it is gone; the output gained a line for each that is not
-- tried again; no other file changed; and what went over the link is theirs, and then `seen`.
pub record Keeps {V : Type 0} (of : Ghosts V) (w : World) (old new : Core) (held : List Event) (journal : Journal) (volume left : V)
    (written shown : List ℕ) (went gone : List Exchange) (visits : List Visit) (seen : List Exchange) : Type 0 where
  pub are : AreVisits w old new visits
  pub core : new.events ≡ old.events ++ events visits
  pub goes_on : GoesOn old new visits
  pub rests : Rests of journal left (held ++ events visits)
  pub records :
      of.contents left (warc_file (next_place old)) ≡ take (next_place old).end (of.contents volume (warc_file (next_place old))) ++ warc visits
  pub others : Others (warc_file (next_place old)) (of.contents volume) (of.contents left)
  pub lines : shown ≡ written ++ log visits
  pub over_link : IsTrue w.tells → gone ≡ went ++ (exchanges visits ++ seen)

-- Behind the visits an item was handed out and processed, whose end would add more keys than the job allows. Nothing of it is
-- recorded; this of it went over the link.
pub record IsRefused (w : World) (core : Core) (known adds : ℕ) (seen : List Exchange) : Type 0 where
  pub out : Core
  pub one : Emitted
  pub moment : ℕ
  pub given : w.gives moment
  pub emits : IsOut core out 0 moment one
  pub done : Done
  pub is : IsDone done
  pub work : done.work ≡ one.work
  pub settings : done.settings ≡ core.settings
  pub how : Ends w done.work done.ending done.reply seen
  pub body : Option Body
  pub bytes : List ℕ
  pub recorded : IsRecorded (cited_end (history core)) done body bytes
  pub later : ℕ
  pub given_later : w.gives later
  pub full : IsFullFor out one (end_with done.ending body) later done.links known adds
