-- What `tend` promises for its words.
--     Tends ..      of what a call was given and left
use Rattle.std.specs.Prelude.{◌≡◌, ◌≢◌, ℕ, ◌≤◌, IsTrue, MatchResult, Ok, List, [], ◌++◌, length}
use Rattle.crawl_kinds.specs.declared.event.Event.{Event}
use Rattle.crawl_traits.specs.Causes.{Rose}
use Rattle.crawl_traits.specs.Images.{After}
use Rattle.crawl_traits.specs.Runs.{LeavesOnly, IsSettled}
use Rattle.crawl_traits.specs.declared.file.FileId.TheVariants as file
use Rattle.crawl_traits.specs.declared.stream.Sink as sinks
use Rattle.crawl_traits.specs.declared.stream.Source as sources
use Rattle.crawl_traits.specs.declared.volume.Volume as volumes
use Rattle.program_status.specs.Gains.{Gains, GainsFront}
use Rattle.program_status.specs.Status.{status_text}
use Rattle.program_status.specs.declared.status.Status.{Status}
use Rattle.program_status.specs.declared.status.Status.TheVariants.{Done, Usage, SinkFault}
use Rattle.recover_journal.specs.Holds.{journal_file, HoldsEvents}
use Rattle.job_commands.specs.Causes.{IsCaused}
use Rattle.job_commands.specs.Enqueue.{AreSeedsIn, Enqueued, enqueue_causes, HoldsEnqueued}
use Rattle.job_commands.specs.Init.{Initiated, init_causes, HoldsInitiated}
use Rattle.job_commands.specs.Statuses.{IsRefusal, SaysText}
use Rattle.job_commands.specs.Words.{read_of}
use Rattle.job_commands.specs.declared.words.Command.TheVariants.{Init, Enqueue}

-- what a call was given and left: a source, a volume, an output, and how it ended
module _ {V S W : Type 0} (v : volumes.Ghosts V) (s : sources.Ghosts S) (o : sinks.Ghosts W) (gives : ℕ → Type 0) (job job_left : S) (volume volume_left : V) (out out_left : W) (status : Status) where
  -- what every command promises
  pub record Ends : Type 0 where
    -- a refusal changes no byte
    pub kept : IsRefusal status → v.contents volume_left ≡ v.contents volume
    -- Done leaves nothing of the source
    pub left : status ≡ Done → IsTrue (s.tells job) → s.left job_left ≡ []
    -- the output gained the status's line, or a front of it where the sink failed
    pub said : SaysText status → IsTrue (o.tells out) → Gains (Rose (o.faults out) (o.faults out_left)) (o.written out) (o.written out_left) (status_text status)
    -- no count falls
    pub later : (v.faults volume ≤ v.faults volume_left) × (o.faults out ≤ o.faults out_left) × (s.faults job ≤ s.faults job_left)

  -- what `init` promises
  pub record Inits : Type 0 where
    pub done : status ≡ Done → IsTrue (s.tells job) → IsTrue (v.tells volume) → Initiated gives (s.left job) (v.contents volume) (v.contents volume_left)
    pub caused : status ≢ Done → IsCaused (init_causes (Rose (v.faults volume) (v.faults volume_left)) (Rose (s.faults job) (s.faults job_left)) (v.tells volume) (s.tells job) (v.contents volume) (s.left job)) status
    pub silent : status ≡ Done → o.written out_left ≡ o.written out
    -- a crash at any moment of the call
    pub any_moment : (events : List Event) → IsSettled v volume (λ i. (length (i file.Job) ≤ 1) × HoldsEvents events (i journal_file))
        → LeavesOnly v volume volume_left (HoldsInitiated (λ text. IsTrue (s.tells job) → text ≡ s.left job) gives events (v.may_leave volume))

  -- the seeds of the source's text were added, and the output gained the queue, or a front of it
  abbrev pub EnqueuedAnd : (List ℕ → Type 0) → Type 0
  EnqueuedAnd IsGained = (shown : List ℕ) × Enqueued gives (s.left job) (v.contents volume) (v.contents volume_left) shown × IsGained shown

  -- what `enqueue` promises
  pub record Enqueues : Type 0 where
    pub done : status ≡ Done → IsTrue (s.tells job) → IsTrue (v.tells volume) → IsTrue (o.tells out) → EnqueuedAnd (λ shown. o.written out_left ≡ o.written out ++ shown)
    pub unshown : status ≡ SinkFault → IsTrue (s.tells job) → IsTrue (v.tells volume) → IsTrue (o.tells out) → EnqueuedAnd (GainsFront (o.written out) (o.written out_left))
    pub caused : status ≢ Done → IsCaused (enqueue_causes gives (Rose (v.faults volume) (v.faults volume_left)) (Rose (o.faults out) (o.faults out_left)) (Rose (s.faults job) (s.faults job_left))
        (v.tells volume) (s.tells job) (v.contents volume) (v.contents volume_left) (s.left job)) status
    -- a crash at any moment of the call
    pub any_moment : (events : List Event) → IsSettled v volume (λ i. HoldsEvents events (i journal_file))
        → LeavesOnly v volume volume_left (After journal_file (HoldsEnqueued (λ seeds. IsTrue (s.tells job) → AreSeedsIn (s.left job) seeds) gives (v.contents volume) events) (v.may_leave volume))

  -- what `tend` promises for these words
  pub record Tends (words : List (List ℕ)) : Type 0 where
    -- Usage comes exactly where the words are no command, with the first word at which none continues
    pub usage : MatchResult (read_of words) (λ c. (i : ℕ) → status ≢ Usage i) (λ i. status ≡ Usage i)
    pub init : read_of words ≡ Ok Init → Inits
    pub enqueue : read_of words ≡ Ok Enqueue → Enqueues
    pub ends : Ends
