-- What `enqueue` does.
--     Enqueued ..      the crawl was opened, and the seeds of the source's text were added
--     Filled ..      it was opened, and has no room for them
--     enqueue_causes ..      the causes of its statuses
--     HoldsEnqueued ..      what a crash at any moment leaves of the journal
use Rattle.std.specs.Prelude.{◌⊎◌, ℕ, ◌<◌, ◌≤◌, Bool, IsTrue, List, [], ◌∷◌, ◌++◌, length, None}
use Rattle.crawl_kinds.specs.declared.event.Event.{Event}
use Rattle.crawl_traits.specs.Images.{Image}
use Rattle.crawl_traits.specs.declared.file.FileId.TheVariants as file
use Rattle.job_order.specs.declared.read.Job.{Job}
use Rattle.job_spec.specs.declared.fault.JobFault.{JobFault}
use Rattle.job_spec.specs.declared.fault.JobFault.TheVariants.{TooLong, BadSeed}
use Rattle.open_crawl.specs.JobFile.{HoldsText}
use Rattle.open_crawl.specs.Opening.{AddsSeeds, IsTooMany}
use Rattle.recover_journal.specs.Holds.{journal_file, HoldsEvents}
use Rattle.recover_journal.specs.Rest.{OthersStay}
use Rattle.seed_list.specs.Bad.{IsBadLine, IsRefusedSeed, most_text}
use Rattle.seed_list.specs.Lines.{lines}
use Rattle.seed_list.specs.Listing.{AreSeedsOf}
use Rattle.job_commands.specs.Causes.{Causes}
use Rattle.job_commands.specs.Opened.{KeepsJob, Opens, Reopened, events_then, HoldsOpened, IsDamaged}
use Rattle.job_commands.specs.Queue.{IsShown}

-- the text is seeds
pub record AreSeedsIn (text : List ℕ) (seeds : List (List ℕ)) : Type 0 where
  pub most : length text ≤ most_text
  pub read : AreSeedsOf seeds (lines text)

-- The crawl was opened, and the seeds were added at the same moment. The journal holds what it held, what opening adds and the
-- event of the seeds, and no other file changed.
pub record Added (gives : ℕ → Type 0) (seeds : List (List ℕ)) (before after : Image) : Type 0 where
  pub crawl : Reopened gives before
  pub event : Event
  pub adds : AddsSeeds crawl.opens.job.settings crawl.opens.job.scope (events_then crawl) seeds crawl.opens.moment event
  pub holds : HoldsEvents (events_then crawl ++ event ∷ []) (after journal_file)
  pub others : OthersStay before after

-- its events then
abbrev pub events_after : {gives : ℕ → Type 0} {seeds : List (List ℕ)} {before after : Image} → Added gives seeds before after → List Event
events_after a = events_then a.crawl ++ a.event ∷ []

-- the seeds were added, and this is the queue then
pub record Shows (gives : ℕ → Type 0) (seeds : List (List ℕ)) (before after : Image) (shown : List ℕ) : Type 0 where
  pub added : Added gives seeds before after
  pub is : IsShown (events_after added) shown

-- the text is seeds, which were added, and this is the queue then
pub record Enqueued (gives : ℕ → Type 0) (text : List ℕ) (before after : Image) (shown : List ℕ) : Type 0 where
  pub seeds : List (List ℕ)
  pub read : AreSeedsIn text seeds
  pub shows : Shows gives seeds before after shown

-- The crawl was opened; so many keys are known and so many would be added, which is more than the job allows. The seeds are
-- left out.
pub record Filled (gives : ℕ → Type 0) (seeds : List (List ℕ)) (before after : Image) (known adds : ℕ) : Type 0 where
  pub crawl : Reopened gives before
  pub full : IsTooMany crawl.opens.job.settings crawl.opens.job.scope (events_then crawl) seeds known adds
  pub holds : HoldsEvents (events_then crawl) (after journal_file)
  pub others : OthersStay before after

-- why a text is no seeds
abbrev pub IsSeedsRefusal : List ℕ → JobFault → Type 0
IsSeedsRefusal text TooLong = most_text < length text
IsSeedsRefusal text (BadSeed line) = (length text ≤ most_text) × IsBadLine IsRefusedSeed (lines text) line
IsSeedsRefusal text _ = ⊥

-- a job is there
abbrev pub HasJob : Bool → Image → Type 0
HasJob tells before = IsTrue tells → (job : Job) × KeepsJob before job

-- there is no job where the job file counts no block
abbrev pub enqueue_causes : (gives : ℕ → Type 0) (volume sink source : Type 0) → (tells told : Bool) → Image → Image → List ℕ → Causes
enqueue_causes gives volume sink source tells told before after text = record {
  volume = volume;
  sink = sink;
  source = source × HasJob tells before;
  refused = λ f. (IsTrue told → IsSeedsRefusal text f) × HasJob tells before;
  damaged = λ f at. IsTrue tells → IsDamaged before f at;
  full = λ known adds. IsTrue tells → IsTrue told → (seeds : List (List ℕ)) × AreSeedsIn text seeds × Filled gives seeds before after known adds;
  no_job = IsTrue tells → HoldsText None (before file.Job);
  job_there = ⊥;
}

-- such seeds were added behind an opening
pub record HoldsAdded (AreSeeds : List (List ℕ) → Type 0) (gives : ℕ → Type 0) (image : Image) (events : List Event) (after : List ℕ) : Type 0 where
  pub opens : Opens (KeepsJob image) gives events
  pub seeds : List (List ℕ)
  pub are : AreSeeds seeds
  pub event : Event
  pub adds : AddsSeeds opens.job.settings opens.job.scope (events ++ opens.new) seeds opens.moment event
  pub holds : HoldsEvents ((events ++ opens.new) ++ event ∷ []) after

-- the journal holds these events, or these and what opening adds, or these and the event of such seeds too
abbrev pub HoldsEnqueued : (List (List ℕ) → Type 0) → (gives : ℕ → Type 0) → Image → List Event → List ℕ → List ℕ → Type 0
HoldsEnqueued AreSeeds gives image events before after =
    HoldsOpened (KeepsJob image) gives events after ⊎ HoldsAdded AreSeeds gives image events after
