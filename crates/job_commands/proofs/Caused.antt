-- Causes of statuses, from those of the calls below.
use Rattle.std.proofs.Common.{◌≡◌, ◌≢◌, inl, ℕ, ◌<◌, ◌≤◌, List, [], length, None, refl, ◌∙◌, subst, arith}
use Rattle.std.specs.Prelude.{Bool, IsTrue}
use Rattle.crawl_traits.specs.Causes.{Rose}
use Rattle.crawl_traits.specs.Images.{Image}
use Rattle.crawl_traits.specs.declared.file.FileId.{FileId}
use Rattle.crawl_traits.specs.declared.file.FileId.TheVariants as file
use Rattle.crawl_traits.specs.declared.fault.StoreFault.{StoreFault}
use Rattle.crawl_traits.specs.declared.fault.StoreFault.TheVariants as store
use Rattle.gate_log.specs.Blocks.{Counts}
use Rattle.job_order.specs.declared.read.Job.{Job}
use Rattle.job_spec.specs.Job.{IsRefusal}
use Rattle.job_spec.specs.declared.fault.JobFault.{JobFault}
use Rattle.job_spec.specs.declared.fault.JobFault.TheVariants as fault
use Rattle.open_crawl.specs.Faults.{IsDamageOf, IsLoadFault}
use Rattle.open_crawl.specs.JobFile.{HoldsText}
use Rattle.open_crawl.specs.declared.fault.LoadFault.{LoadFault}
use Rattle.open_crawl.specs.declared.fault.LoadFault.TheVariants as load
use Rattle.open_crawl.specs.declared.fault.SeedsStop.{SeedsStop}
use Rattle.open_crawl.specs.declared.fault.SeedsStop.TheVariants as stop
use Rattle.program_status.specs.declared.status.Status.{Status}
use Rattle.program_status.specs.declared.status.Status.TheVariants.{Done, Usage, JobRefused, VolumeFault, Damaged, SinkFault, Full, NoMemory, NoJob, JobThere, SourceFault}
use Rattle.seed_list.specs.Bad.{most_text}
use Rattle.job_commands.specs.Causes.{Causes, IsCaused, IsTooLong, source_causes, volume_causes}
use Rattle.job_commands.specs.Enqueue.{AreSeedsIn, Filled, HasJob, IsSeedsRefusal, enqueue_causes}
use Rattle.job_commands.specs.Init.{IsJobThere, IsNamedRefusal, init_causes}
use Rattle.job_commands.specs.Opened.{IsDamaged, IsDamagedAnew, KeepsJob}
use Rattle.job_commands.specs.Statuses.{IsRefusal as IsRefused, SaysText, status_of, status_of_load, status_of_stop}

-- each cause follows from the one below
pub record Follows (c d : Causes) : Type 0 where
  pub volume : c.volume → d.volume
  pub sink : c.sink → d.sink
  pub source : c.source → d.source
  pub refused : (f : JobFault) → c.refused f → d.refused f
  pub damaged : (f : FileId) (at : ℕ) → c.damaged f at → d.damaged f at
  pub full : (known adds : ℕ) → c.full known adds → d.full known adds
  pub no_job : c.no_job → d.no_job
  pub job_there : c.job_there → d.job_there

pub caused_by : (c d : Causes) (s : Status) → Follows c d → IsCaused c s → IsCaused d s
caused_by c d Done to is = absurd is
caused_by c d (Usage i) to is = absurd is
caused_by c d (JobRefused f) to is = to.refused f is
caused_by c d VolumeFault to is = to.volume is
caused_by c d (Damaged f at) to is = to.damaged f at is
caused_by c d SinkFault to is = to.sink is
caused_by c d (Full known adds) to is = to.full known adds is
caused_by c d NoMemory to is = tt
caused_by c d NoJob to is = to.no_job is
caused_by c d JobThere to is = to.job_there is
caused_by c d SourceFault to is = to.source is

-- a command that reached the volume refuses nothing
pub none_refused : (failed : Type 0) (damaged : FileId → ℕ → Type 0) (full : ℕ → ℕ → Type 0) (s : Status) → IsCaused (volume_causes failed ⊥ ⊥ damaged full) s → IsRefused s → ⊥
none_refused failed damaged full Done is early = is
none_refused failed damaged full (Usage i) is early = is
none_refused failed damaged full (JobRefused f) is early = is
none_refused failed damaged full VolumeFault is early = early
none_refused failed damaged full (Damaged f at) is early = early
none_refused failed damaged full SinkFault is early = early
none_refused failed damaged full (Full known adds) is early = early
none_refused failed damaged full NoMemory is early = early
none_refused failed damaged full NoJob is early = is
none_refused failed damaged full JobThere is early = is
none_refused failed damaged full SourceFault is early = is

-- a fault of the volume, whose damage is this
pub store_caused : (f : StoreFault) (rose there none : Type 0) (of : FileId) (is : ℕ → Type 0) (damaged : FileId → ℕ → Type 0) (full : ℕ → ℕ → Type 0) (told : Type 0)
    → (f ≡ store.Volume → rose) → (told → IsDamageOf of is f) → ((named : FileId) (at : ℕ) → (told → (named ≡ of) × is at) → damaged named at) → IsCaused (volume_causes rose there none damaged full) (status_of f)
store_caused store.Volume rose there none of is damaged full told cause damage to = cause refl
store_caused (store.Damaged named at) rose there none of is damaged full told cause damage to = to named at damage
store_caused store.NoMemory rose there none of is damaged full told cause damage to = tt

-- a crawl that takes no seeds
pub stop_caused : (s : SeedsStop) (rose : Type 0) (damaged : FileId → ℕ → Type 0) (full : ℕ → ℕ → Type 0)
    → (s ≡ stop.Volume → rose) → ((known adds : ℕ) → s ≡ stop.Full known adds → full known adds) → IsCaused (volume_causes rose ⊥ ⊥ damaged full) (status_of_stop s)
stop_caused (stop.Full known adds) rose damaged full cause filled = filled known adds refl
stop_caused stop.Volume rose damaged full cause filled = cause refl
stop_caused stop.NoMemory rose damaged full cause filled = tt

-- a count that rose from a later one on
pub rose_before : (old mid new : ℕ) → old ≤ mid → Rose mid new → Rose old new
rose_before old mid new le rose = omega (arith, le, rose)

-- a job that can't be read
pub load_caused : (f : LoadFault) (rose : Type 0) (before : Image) (tells : Bool) (full : ℕ → ℕ → Type 0)
    → (f ≡ load.Store store.Volume → rose) → (IsTrue tells → IsLoadFault (before file.Job) f)
    → IsCaused (volume_causes rose ⊥ (IsTrue tells → HoldsText None (before file.Job)) (λ f at. IsTrue tells → IsDamaged before f at) full) (status_of_load f)
load_caused load.NoJob rose before tells full cause fault = fault
load_caused (load.Store store.Volume) rose before tells full cause fault = cause refl
load_caused (load.Store (store.Damaged named at)) rose before tells full cause fault = λ told. inl (fault told)
load_caused (load.Store store.NoMemory) rose before tells full cause fault = tt

-- a text that is too long is refused as no job
pub too_long_job : (told : Type 0) (text : List ℕ) (f : JobFault) → IsTooLong (told → most_text < length text) f → told → IsNamedRefusal text f
unfolding IsRefusal
too_long_job told text fault.TooLong is here = (is here, λ same. absurd (cc (same)))
too_long_job told text fault.NotToml is here = absurd is
too_long_job told text (fault.UnknownName name) is here = absurd is
too_long_job told text (fault.Missing name) is here = absurd is
too_long_job told text (fault.OutOfRange name) is here = absurd is
too_long_job told text (fault.BadSeed line) is here = absurd is
too_long_job told text (fault.BadPattern index) is here = absurd is
too_long_job told text fault.NoMemory is here = absurd is

-- and as no seeds
pub too_long_seeds : (told : Type 0) (text : List ℕ) (f : JobFault) → IsTooLong (told → most_text < length text) f → told → IsSeedsRefusal text f
too_long_seeds told text fault.TooLong is here = is here
too_long_seeds told text fault.NotToml is here = absurd is
too_long_seeds told text (fault.UnknownName name) is here = absurd is
too_long_seeds told text (fault.Missing name) is here = absurd is
too_long_seeds told text (fault.OutOfRange name) is here = absurd is
too_long_seeds told text (fault.BadSeed line) is here = absurd is
too_long_seeds told text (fault.BadPattern index) is here = absurd is
too_long_seeds told text fault.NoMemory is here = absurd is

-- the causes of reading a source
pub source_caused : (s : Status) (failed : Type 0) (first second : JobFault → Type 0) → ((f : JobFault) → first f → second f) → IsCaused (source_causes failed first) s → IsCaused (source_causes failed second) s
source_caused s failed first second to is =
    caused_by (source_causes failed first) (source_causes failed second) s
    (record { volume = λ x. x; sink = λ x. x; source = λ x. x; refused = to; damaged = λ f at x. x; full = λ known adds x. x; no_job = λ x. x; job_there = λ x. x }) is

-- what refuses says nothing of the sink
pub not_of_sink : (s : Status) → SaysText s → s ≢ SinkFault
not_of_sink s says is = subst SaysText is says

-- a command that was begun does not end with Usage
pub never_usage : (c : Causes) (s : Status) → (s ≢ Done → IsCaused c s) → (i : ℕ) → s ≢ Usage i
never_usage c s caused i is =
    subst (IsCaused c) is (caused (λ done. absurd (cc (is, done))))

-- `init`: while the job file is looked at, while the source is read, while the crawl is begun
pub checked_caused : (s : Status) (rose source : Type 0) (tells told : Bool) (before : Image) (text : List ℕ)
    → IsCaused (volume_causes rose (IsTrue tells → IsJobThere before) ⊥ (λ f at. IsTrue tells → IsDamagedAnew before f at) (λ known adds. ⊥)) s
    → IsCaused (init_causes rose source tells told before text) s
checked_caused s rose source tells told before text is =
    caused_by (volume_causes rose (IsTrue tells → IsJobThere before) ⊥ (λ f at. IsTrue tells → IsDamagedAnew before f at) (λ known adds. ⊥)) (init_causes rose source tells told before text) s
    (record { volume = λ x. x; sink = λ x. x; source = λ x. absurd x; refused = λ f x. absurd x; damaged = λ f at x. x; full = λ known adds x. x; no_job = λ x. x; job_there = λ x. x }) is

pub taken_caused : (s : Status) (rose source : Type 0) (tells told : Bool) (before : Image) (text : List ℕ) → (IsTrue tells → Counts [] (before file.Job))
    → IsCaused (source_causes source (λ f. IsTrue told → IsNamedRefusal text f)) s → IsCaused (init_causes rose source tells told before text) s
taken_caused s rose source tells told before text none is =
    caused_by (source_causes source (λ f. IsTrue told → IsNamedRefusal text f)) (init_causes rose source tells told before text) s
    (record { volume = λ x. absurd x; sink = λ x. x; source = λ x. (x, none); refused = λ f x. (x, none); damaged = λ f at x. absurd x; full = λ known adds x. x; no_job = λ x. x; job_there = λ x. absurd x }) is

pub begun_caused : (s : Status) (rose_then rose source : Type 0) (tells_then tells told : Bool) (then before : Image) (text : List ℕ) → (rose_then → rose) → tells_then ≡ tells → then ≡ before
    → IsCaused (volume_causes rose_then ⊥ ⊥ (λ f at. IsTrue tells_then → IsDamagedAnew then f at) (λ known adds. ⊥)) s
    → IsCaused (init_causes rose source tells told before text) s
begun_caused s rose_then rose source tells_then tells told then before text to same_tells same is =
    caused_by (volume_causes rose_then ⊥ ⊥ (λ f at. IsTrue tells_then → IsDamagedAnew then f at) (λ known adds. ⊥)) (init_causes rose source tells told before text) s
    (record {
      volume = to;
      sink = λ x. x;
      source = λ x. absurd x;
      refused = λ f x. absurd x;
      damaged = λ f at x yes_told. subst (λ (i : Image). IsDamagedAnew i f at) same (x (same_tells ∙ yes_told));
      full = λ known adds x. x;
      no_job = λ x. x;
      job_there = λ x. absurd x;
    }) is

-- `enqueue`: while the job is read, while the source is, and while seeds are added
module _ (gives : ℕ → Type 0) (s : Status) (rose sink source : Type 0) (tells told : Bool) (before after : Image) (text : List ℕ) where
  pub loaded_caused : IsCaused (volume_causes rose ⊥ (IsTrue tells → HoldsText None (before file.Job)) (λ f at. IsTrue tells → IsDamaged before f at) (λ known adds. ⊥)) s
      → IsCaused (enqueue_causes gives rose sink source tells told before after text) s
  loaded_caused is =
      caused_by (volume_causes rose ⊥ (IsTrue tells → HoldsText None (before file.Job)) (λ f at. IsTrue tells → IsDamaged before f at) (λ known adds. ⊥)) (enqueue_causes gives rose sink source tells told before after text) s
      (record { volume = λ x. x; sink = λ x. absurd x; source = λ x. absurd x; refused = λ f x. absurd x; damaged = λ f at x. x; full = λ known adds x. absurd x; no_job = λ x. x; job_there = λ x. x }) is

  pub read_caused : HasJob tells before → IsCaused (source_causes source (λ f. IsTrue told → IsSeedsRefusal text f)) s → IsCaused (enqueue_causes gives rose sink source tells told before after text) s
  read_caused has is =
      caused_by (source_causes source (λ f. IsTrue told → IsSeedsRefusal text f)) (enqueue_causes gives rose sink source tells told before after text) s
      (record { volume = λ x. absurd x; sink = λ x. absurd x; source = λ x. (x, has); refused = λ f x. (x, has); damaged = λ f at x. absurd x; full = λ known adds x. absurd x; no_job = λ x. absurd x; job_there = λ x. x }) is

  pub added_caused : (rose_then : Type 0) (tells_then : Bool) (then : Image) (seeds : List (List ℕ)) (job : Job) → (rose_then → rose) → tells_then ≡ tells → then ≡ before → (IsTrue told → AreSeedsIn text seeds)
      → (IsTrue tells → KeepsJob then job)
      → IsCaused (volume_causes rose_then ⊥ ⊥ (λ f at. IsTrue tells_then → IsDamaged then f at) (λ known adds. IsTrue tells_then → KeepsJob then job → Filled gives seeds then after known adds)) s
      → IsCaused (enqueue_causes gives rose sink source tells told before after text) s
  added_caused rose_then tells_then then seeds job to same_tells same are keeps is =
      caused_by (volume_causes rose_then ⊥ ⊥ (λ f at. IsTrue tells_then → IsDamaged then f at) (λ known adds. IsTrue tells_then → KeepsJob then job → Filled gives seeds then after known adds)) (enqueue_causes gives rose sink source tells told before after text) s
      (record {
        volume = to;
        sink = λ x. absurd x;
        source = λ x. absurd x;
        refused = λ f x. absurd x;
        damaged = λ f at x yes_told. subst (λ (i : Image). IsDamaged i f at) same (x (same_tells ∙ yes_told));
        full = λ known adds x yes_told told_text. (seeds, are told_text, subst (λ (i : Image). Filled gives seeds i after known adds) same (x (same_tells ∙ yes_told) (keeps yes_told)));
        no_job = λ x. absurd x;
        job_there = λ x. x;
      }) is

  -- and where the status's line failed
  pub said_caused : (later : Type 0) → (sink → later) → IsCaused (enqueue_causes gives rose sink source tells told before after text) s → IsCaused (enqueue_causes gives rose later source tells told before after text) s
  said_caused later to is =
      caused_by (enqueue_causes gives rose sink source tells told before after text) (enqueue_causes gives rose later source tells told before after text) s
      (record { volume = λ x. x; sink = to; source = λ x. x; refused = λ f x. x; damaged = λ f at x. x; full = λ known adds x. x; no_job = λ x. x; job_there = λ x. x }) is

-- a status with a cause is not Done
pub never_done : (c : Causes) (s : Status) → IsCaused c s → s ≢ Done
never_done c s is done = subst (IsCaused c) done is

-- a count that rose is not lower later
pub rose_after : (old mid new : ℕ) → Rose old mid → mid ≤ new → Rose old new
rose_after old mid new rose le = omega (arith, rose, le)
