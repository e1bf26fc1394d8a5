-- What `init` does.
--     Initiated ..      the job of the source's text is kept, and its crawl is opened
--     init_causes ..      the causes of its statuses
--     HoldsInitiated ..      what a crash at any moment leaves
use Rattle.std.specs.Prelude.{◌≡◌, ◌≢◌, ◌⊎◌, ℕ, Bool, IsTrue, List, [], ◌∷◌, ◌++◌}
use Rattle.crawl_kinds.specs.declared.event.Event.{Event}
use Rattle.crawl_traits.specs.Images.{Image}
use Rattle.crawl_traits.specs.declared.file.FileId.{FileId}
use Rattle.crawl_traits.specs.declared.file.FileId.TheVariants as file
use Rattle.gate_log.specs.Blocks.{Counts}
use Rattle.job_spec.specs.Job.{IsRefusal}
use Rattle.job_spec.specs.declared.fault.JobFault.{JobFault}
use Rattle.job_spec.specs.declared.fault.JobFault.TheVariants as fault
use Rattle.open_crawl.specs.JobFile.{IsTextOfJob}
use Rattle.recover_journal.specs.Holds.{journal_file, HoldsEvents}
use Rattle.job_commands.specs.Causes.{Causes}
use Rattle.job_commands.specs.Opened.{Found, Opens, HoldsOpened, IsDamagedAnew}

-- other files are as before
abbrev pub OthersAre : Image → Image → Type 0
OthersAre before after = (f : FileId) → f ≢ file.Job → f ≢ journal_file → after f ≡ before f

-- The job file keeps the text, which is a job's; behind what the journal held stands what opening adds: where that was nothing, a
-- session and the job's seeds. No other file changed.
pub record Begun (gives : ℕ → Type 0) (text : List ℕ) (before after : Image) : Type 0 where
  pub found : Found before
  pub opens : Opens (IsTextOfJob text) gives found.events
  pub keeps : Counts (text ∷ []) (after file.Job)
  pub holds : HoldsEvents (found.events ++ opens.new) (after journal_file)
  pub others : OthersAre before after

-- there was no job
abbrev pub Initiated : (gives : ℕ → Type 0) → List ℕ → Image → Image → Type 0
Initiated gives text before after = Counts [] (before file.Job) × Begun gives text before after

-- the job file counts a text
abbrev pub IsJobThere : Image → Type 0
IsJobThere image = (text : List ℕ) × Counts (text ∷ []) (image file.Job)

-- the text is refused for this fault, which is not want of memory
abbrev pub IsNamedRefusal : List ℕ → JobFault → Type 0
IsNamedRefusal text f = IsRefusal text f × (f ≢ fault.NoMemory)

-- a job is there where the job file counts a text; a text is refused where there is no job
abbrev pub init_causes : (volume source : Type 0) → (tells told : Bool) → Image → List ℕ → Causes
init_causes volume source tells told before text = record {
  volume = volume;
  sink = ⊥;
  source = source × (IsTrue tells → Counts [] (before file.Job));
  refused = λ f. (IsTrue told → IsNamedRefusal text f) × (IsTrue tells → Counts [] (before file.Job));
  damaged = λ f at. IsTrue tells → IsDamagedAnew before f at;
  full = λ known adds. ⊥;
  no_job = ⊥;
  job_there = IsTrue tells → IsJobThere before;
}

-- the job file keeps the job of such a text, and the journal holds these events, or these and what opening adds
pub record KeepsOpened (IsOwn : List ℕ → Type 0) (gives : ℕ → Type 0) (events : List Event) (image : Image) : Type 0 where
  pub text : List ℕ
  pub own : IsOwn text
  pub keeps : Counts (text ∷ []) (image file.Job)
  pub holds : HoldsOpened (IsTextOfJob text) gives events (image journal_file)

-- the job file counts no block and the journal holds these events, or the job of such a text is kept; and no other file changed
pub record HoldsInitiated (IsOwn : List ℕ → Type 0) (gives : ℕ → Type 0) (events : List Event) (may_leave : Image → Type 0) (image : Image) : Type 0 where
  pub old : Image
  pub was : may_leave old
  pub others : OthersAre old image
  pub holds : (Counts [] (image file.Job) × HoldsEvents events (image journal_file)) ⊎ KeepsOpened IsOwn gives events image
