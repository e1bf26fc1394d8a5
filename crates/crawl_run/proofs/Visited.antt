-- Causes of statuses behind a reading of the job.
use Rattle.std.proofs.Common.{◌≡◌, ℕ, None, ◌∙◌, refl, subst}
use Rattle.std.specs.Prelude.{Bool, IsTrue}
use Rattle.crawl_traits.specs.Images.{Image}
use Rattle.crawl_traits.specs.declared.file.FileId.TheVariants as file
use Rattle.open_crawl.specs.JobFile.{HoldsText}
use Rattle.program_status.specs.declared.status.Status.{Status}
use Rattle.program_status.specs.declared.status.Status.TheVariants.{Done, Usage, JobRefused, VolumeFault, Damaged, SinkFault, Full, NoMemory, NoJob, JobThere, SourceFault}
use Rattle.polite_crawl.specs.declared.why.Why.{Why}
use Rattle.polite_crawl.specs.declared.why.Why.TheVariants as stopped
use Rattle.job_commands.specs.Causes.{IsCaused, volume_causes}
use Rattle.job_commands.specs.Opened.{IsDamaged}
use Rattle.job_commands.proofs.Caused.{caused_by}
use Rattle.job_commands.specs.Statuses.{IsRefusal}
use Rattle.crawl_run.specs.Crawl.{crawl_causes, stop_status}

-- while the job is read
pub loaded_caused : (s : Status) (rose sink : Type 0) (full : ℕ → ℕ → Type 0) (tells : Bool) (before : Image)
    → IsCaused (volume_causes rose ⊥ (IsTrue tells → HoldsText None (before file.Job)) (λ f at. IsTrue tells → IsDamaged before f at) (λ known adds. ⊥)) s
    → IsCaused (crawl_causes rose sink full tells before) s
loaded_caused s rose sink full tells before is =
    caused_by (volume_causes rose ⊥ (IsTrue tells → HoldsText None (before file.Job)) (λ f at. IsTrue tells → IsDamaged before f at) (λ known adds. ⊥)) (crawl_causes rose sink full tells before) s
    (record { volume = λ x. x; sink = λ x. absurd x; source = λ x. x; refused = λ f x. x; damaged = λ f at x. x; full = λ known adds x. absurd x; no_job = λ x. x; job_there = λ x. x }) is

-- the same of the volume as it was before
pub visited_caused : (s : Status) (rose_then rose sink : Type 0) (full_then full : ℕ → ℕ → Type 0) (tells_then tells : Bool) (then before : Image) → (rose_then → rose)
    → ((known adds : ℕ) → full_then known adds → full known adds) → tells_then ≡ tells → then ≡ before
    → IsCaused (crawl_causes rose_then sink full_then tells_then then) s → IsCaused (crawl_causes rose sink full tells before) s
visited_caused s rose_then rose sink full_then full tells_then tells then before to fuller same_tells same is =
    caused_by (crawl_causes rose_then sink full_then tells_then then) (crawl_causes rose sink full tells before) s
    (record {
      volume = to;
      sink = λ x. x;
      source = λ x. x;
      refused = λ f x. x;
      damaged = λ f at x told. subst (λ (i : Image). IsDamaged i f at) same (x (same_tells ∙ told));
      full = fuller;
      no_job = λ x told. subst (λ (i : Image). HoldsText None (i file.Job)) same (x (same_tells ∙ told));
      job_there = λ x. x;
    }) is

-- where the status's line failed too
pub said_caused : (s : Status) (rose sink later : Type 0) (full_then full : ℕ → ℕ → Type 0) (tells : Bool) (before : Image) → (sink → later)
    → ((known adds : ℕ) → s ≡ Full known adds → full_then known adds → full known adds)
    → IsCaused (crawl_causes rose sink full_then tells before) s → IsCaused (crawl_causes rose later full tells before) s
said_caused (Full known adds) rose sink later full_then full tells before to fuller is = fuller known adds refl is
said_caused Done rose sink later full_then full tells before to fuller is = is
said_caused (Usage i) rose sink later full_then full tells before to fuller is = is
said_caused (JobRefused fault) rose sink later full_then full tells before to fuller is = is
said_caused VolumeFault rose sink later full_then full tells before to fuller is = is
said_caused (Damaged f at) rose sink later full_then full tells before to fuller is = is
said_caused SinkFault rose sink later full_then full tells before to fuller is = to is
said_caused NoMemory rose sink later full_then full tells before to fuller is = is
said_caused NoJob rose sink later full_then full tells before to fuller is = is
said_caused JobThere rose sink later full_then full tells before to fuller is = is
said_caused SourceFault rose sink later full_then full tells before to fuller is = is

-- the status of a crawl that stopped has its cause, and is no refusal
pub stopped_caused : (why : Why) (rose sink : Type 0) (full : ℕ → ℕ → Type 0) (tells : Bool) (before : Image)
    → (why ≡ stopped.Volume → rose) → (why ≡ stopped.Sink → sink) → ((known adds : ℕ) → why ≡ stopped.Full known adds → full known adds)
    → IsCaused (crawl_causes rose sink full tells before) (stop_status why)
stopped_caused stopped.Volume rose sink full tells before volume out filled = volume refl
stopped_caused stopped.Sink rose sink full tells before volume out filled = out refl
stopped_caused stopped.NoMemory rose sink full tells before volume out filled = tt
stopped_caused (stopped.Full known adds) rose sink full tells before volume out filled = filled known adds refl

pub never_refused : (why : Why) → IsRefusal (stop_status why) → ⊥
never_refused stopped.Volume is = is
never_refused stopped.Sink is = is
never_refused stopped.NoMemory is = is
never_refused (stopped.Full known adds) is = is
