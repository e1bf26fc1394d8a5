-- What `crawl` does.
--     IsReached image      the WARC file of the last cited record reaches its end
--     IsGood f a events      a history is legal, complete and polite
--     Recorded ..      the crawl was opened, and what was handed out was recorded, in order
--     stop_status why      the status of a crawl that stopped
--     crawl_causes ..      the causes of its statuses
use Rattle.std.specs.Prelude.{◌≡◌, ℕ, ◌≤◌, Bool, IsTrue, List, [], ◌++◌, length, take, None}
use Rattle.crawl_kinds.specs.declared.event.Event.{Event}
use Rattle.crawl_kinds.specs.declared.settings.Settings.{Settings}
use Rattle.crawl_traits.specs.Images.{Image}
use Rattle.crawl_traits.specs.declared.file.FileId.TheVariants as file
use Rattle.crawl_traits.specs.declared.link.Exchange.{Exchange}
use Rattle.crawl_history.specs.Citations.{cited_end}
use Rattle.crawl_history.specs.Facts.{Facts, Archive}
use Rattle.crawl_history.specs.History.{history_of}
use Rattle.crawl_history.specs.Steps.{Legal}
use Rattle.history_promises.specs.Complete.{Complete}
use Rattle.history_promises.specs.Polite.{Polite}
use Rattle.core_facts.specs.CoreFacts.{Pages}
use Rattle.crawl_facts.specs.Archives.{IsArchive}
use Rattle.crawl_facts.specs.Pages.{ArePages, place_after}
use Rattle.frontier_core.specs.Core.{Core, facts}
use Rattle.frontier_core.specs.Standing.{Stands}
use Rattle.open_crawl.specs.JobFile.{HoldsText}
use Rattle.process_chains.specs.Ends.{World}
use Rattle.recover_journal.specs.Holds.{journal_file, HoldsEvents}
use Rattle.visit_spec.specs.Crawled.{IsOver, IsRefused, Others, next_place, warc_file}
use Rattle.visit_spec.specs.Visits.{AreVisits, Visit, events, warc, log, exchanges}
use Rattle.polite_crawl.specs.declared.why.Why.{Why}
use Rattle.polite_crawl.specs.declared.why.Why.TheVariants as stopped
use Rattle.program_status.specs.declared.status.Status.{Status}
use Rattle.program_status.specs.declared.status.Status.TheVariants.{VolumeFault, SinkFault, NoMemory, Full}
use Rattle.job_commands.specs.Causes.{Causes}
use Rattle.job_commands.specs.Opened.{Reopened, events_then, IsDamaged}

-- the WARC files of an image, by their numbers
abbrev pub warc_files : Image → ℕ → List ℕ
warc_files image number = image (file.Warc number)

-- the WARC file of the last record that the journal cites reaches the end of that record
abbrev pub IsReached : Image → Type 0
IsReached image =
    (held : List Event) → HoldsEvents held (image journal_file)
    → (place_after (cited_end (history_of held))).end ≤ length (image (warc_file (place_after (cited_end (history_of held)))))

-- Each event is a step after those before it; each seed and link in scope that was found is done or waits, in one queue; and no
-- host was asked before its time, or twice at once.
pub record IsGood (f : Facts) (a : Archive) (held : List Event) : Type 0 where
  pub legal : Legal f a held
  pub complete : Complete f a held
  pub polite : Polite f a held

-- the core of the crawl that was opened
pub record IsOpened {gives : ℕ → Type 0} {before : Image} (crawl : Reopened gives before) (core : Core) : Type 0 where
  pub settings : core.settings ≡ crawl.opens.job.settings
  pub scope : core.scope ≡ crawl.opens.job.scope
  pub events : core.events ≡ events_then crawl

-- what a call was given and left: under which settings its world stands, what the files held, what was on the output, and what
-- went over the link
module _ (w : Settings → World) (gives : ℕ → Type 0) (before after : Image) (written shown : List ℕ) (went gone : List Exchange) where
  -- The crawl was opened, and items were handed out, processed and recorded. The journal holds their events behind those of the
  -- opened crawl; the WARC file has their records behind the last one that was cited, from which anything behind it is gone; the
  -- output gained a line for each end that stays; and no other file changed. What went over the link is theirs, and then `seen`.
  -- For all pages that agree with the definitions and every archive of the WARC files: where the history that was there is
  -- legal, the whole is legal, complete and polite, and what the core keeps of robots files says the same.
  pub record Recorded (core : Core) (seen : List Exchange) : Type 0 where
    pub crawl : Reopened gives before
    pub old : Core
    pub opened : IsOpened crawl old
    pub visits : List Visit
    pub are : AreVisits (w old.settings) old core visits
    pub goes_on :
        (pages : Pages) (a : Archive) → ArePages old.settings pages → IsArchive old.settings (warc_files after) a
        → Legal (facts old pages) a crawl.found.events → Stands pages a core × IsGood (facts old pages) a (old.events ++ events visits)
    pub holds : HoldsEvents (old.events ++ events visits) (after journal_file)
    pub records :
        after (warc_file (next_place old)) ≡ take (next_place old).end (before (warc_file (next_place old))) ++ warc visits
    pub others : Others (warc_file (next_place old)) before after
    pub lines : shown ≡ written ++ log visits
    pub over_link : IsTrue (w old.settings).tells → gone ≡ went ++ (exchanges visits ++ seen)

  -- and nothing will go any more
  pub record IsDone : Type 0 where
    pub core : Core
    pub recorded : Recorded core []
    pub over : IsOver gives core

  -- and the end of the next item would have added more keys than the job allows, so that it is not recorded
  pub record IsFull (known adds : ℕ) : Type 0 where
    pub core : Core
    pub seen : List Exchange
    pub recorded : Recorded core seen
    pub refused : IsRefused (w recorded.old.settings) core known adds seen

-- the status of a crawl that stopped
abbrev pub stop_status : Why → Status
stop_status stopped.Volume = VolumeFault
stop_status stopped.Sink = SinkFault
stop_status stopped.NoMemory = NoMemory
stop_status (stopped.Full known adds) = Full known adds

-- there is no job where the job file counts no block
abbrev pub crawl_causes : (volume sink : Type 0) → (ℕ → ℕ → Type 0) → Bool → Image → Causes
crawl_causes volume sink full tells before = record {
  volume = volume;
  sink = sink;
  source = ⊥;
  refused = λ f. ⊥;
  damaged = λ f at. IsTrue tells → IsDamaged before f at;
  full = full;
  no_job = IsTrue tells → HoldsText None (before file.Job);
  job_there = ⊥;
}
