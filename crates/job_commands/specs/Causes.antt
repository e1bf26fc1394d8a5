-- What each status of a command asks for.
--     Causes      the cause of each status that a command may end with
--     IsCaused causes status      the status has its cause
--     source_causes, volume_causes      the causes of its parts
use Rattle.std.specs.Prelude.{ℕ}
use Rattle.crawl_traits.specs.declared.file.FileId.{FileId}
use Rattle.job_spec.specs.declared.fault.JobFault.{JobFault}
use Rattle.job_spec.specs.declared.fault.JobFault.TheVariants.{TooLong}
use Rattle.program_status.specs.declared.status.Status.{Status}
use Rattle.program_status.specs.declared.status.Status.TheVariants.{Done, Usage, JobRefused, VolumeFault, Damaged, SinkFault, Full, NoMemory, NoJob, JobThere, SourceFault}

-- the cause of each status but Done, Usage and want of memory
pub record Causes : Type 1 where
  pub volume : Type 0
  pub sink : Type 0
  pub source : Type 0
  pub refused : JobFault → Type 0
  pub damaged : FileId → ℕ → Type 0
  pub full : ℕ → ℕ → Type 0
  pub no_job : Type 0
  pub job_there : Type 0

-- the status has its cause; a command that was begun does not end with Usage, and here not with Done
abbrev pub IsCaused : Causes → Status → Type 0
IsCaused c Done = ⊥
IsCaused c (Usage i) = ⊥
IsCaused c (JobRefused fault) = c.refused fault
IsCaused c VolumeFault = c.volume
IsCaused c (Damaged file at) = c.damaged file at
IsCaused c SinkFault = c.sink
IsCaused c (Full known adds) = c.full known adds
IsCaused c NoMemory = Unit {0}
IsCaused c NoJob = c.no_job
IsCaused c JobThere = c.job_there
IsCaused c SourceFault = c.source

-- those of reading a source: it failed, or its text is refused
abbrev pub source_causes : Type 0 → (JobFault → Type 0) → Causes
source_causes failed refused = record {
  volume = ⊥;
  sink = ⊥;
  source = failed;
  refused = refused;
  damaged = λ f at. ⊥;
  full = λ known adds. ⊥;
  no_job = ⊥;
  job_there = ⊥;
}

-- those of the volume: it failed, a job is there, there is none, a file has no reading, or the job has no room
abbrev pub volume_causes : (failed there none : Type 0) → (FileId → ℕ → Type 0) → (ℕ → ℕ → Type 0) → Causes
volume_causes failed there none damaged full = record {
  volume = failed;
  sink = ⊥;
  source = ⊥;
  refused = λ f. ⊥;
  damaged = damaged;
  full = full;
  no_job = none;
  job_there = there;
}

-- a text is refused because it is too long
abbrev pub IsTooLong : Type 0 → JobFault → Type 0
IsTooLong long TooLong = long
IsTooLong long _ = ⊥
