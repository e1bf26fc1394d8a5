-- The crawl that a volume keeps, and its opening.
--     KeepsJob image job      the job file counts the text of this job
--     Opens is_job gives events      an opening of such a job, behind these events, at a moment of the clock
--     Reopened gives image      the crawl that an image holds was opened
--     HoldsOpened ..      what a journal holds after a crash in the midst of it
--     IsDamaged image file at      a file that is read when a crawl is opened has no reading
use Rattle.std.specs.Prelude.{◌≡◌, ◌⊎◌, ℕ, List, [], ◌∷◌, ◌++◌}
use Rattle.crawl_kinds.specs.declared.event.Event.{Event}
use Rattle.crawl_traits.specs.Images.{Image}
use Rattle.crawl_traits.specs.declared.file.FileId.{FileId}
use Rattle.crawl_traits.specs.declared.file.FileId.TheVariants as file
use Rattle.frontier_memo.specs.Fits.{AllFit}
use Rattle.gate_log.specs.Blocks.{Counts}
use Rattle.job_order.specs.declared.read.Job.{Job}
use Rattle.open_crawl.specs.Damage.{IsCrawlDamage}
use Rattle.open_crawl.specs.JobFile.{IsTextOfJob, IsTextDamage, IsJobDamage}
use Rattle.open_crawl.specs.Opening.{Begins}
use Rattle.recover_journal.specs.Holds.{journal_file, HoldsEvents}

-- the job file counts the text of this job
pub record KeepsJob (image : Image) (job : Job) : Type 0 where
  pub text : List ℕ
  pub counts : Counts (text ∷ []) (image file.Job)
  pub is : IsTextOfJob text job

-- such a job is opened at a moment of the clock, behind these events
pub record Opens (IsJob : Job → Type 0) (gives : ℕ → Type 0) (events : List Event) : Type 0 where
  pub job : Job
  pub is : IsJob job
  pub moment : ℕ
  pub given : gives moment
  -- what opening adds
  pub new : List Event
  pub begins : Begins job moment events new

-- the journal holds these events, each of which may stand after those before it
pub record Found (image : Image) : Type 0 where
  pub events : List Event
  pub holds : HoldsEvents events (image journal_file)
  pub fit : AllFit events

-- the crawl that the image holds was opened
pub record Reopened (gives : ℕ → Type 0) (image : Image) : Type 0 where
  pub found : Found image
  pub opens : Opens (KeepsJob image) gives found.events

-- its events then
abbrev pub events_then : {gives : ℕ → Type 0} {image : Image} → Reopened gives image → List Event
events_then r = r.found.events ++ r.opens.new

-- the journal holds these events, or these and what opening adds
abbrev pub HoldsOpened : (Job → Type 0) → (ℕ → Type 0) → List Event → List ℕ → Type 0
HoldsOpened IsJob gives events after =
    HoldsEvents events after ⊎ ((o : Opens IsJob gives events) × HoldsEvents (events ++ o.new) after)

-- a file that is read when a crawl is opened is damaged at this gate
abbrev pub IsDamaged : Image → FileId → ℕ → Type 0
IsDamaged image damaged at =
    ((damaged ≡ file.Job) × IsJobDamage at (image file.Job)) ⊎ ((damaged ≡ journal_file) × IsCrawlDamage at (image journal_file))

-- and the same where the job file is still to be made
abbrev pub IsDamagedAnew : Image → FileId → ℕ → Type 0
IsDamagedAnew image damaged at =
    ((damaged ≡ file.Job) × IsTextDamage at (image file.Job)) ⊎ ((damaged ≡ journal_file) × IsCrawlDamage at (image journal_file))
