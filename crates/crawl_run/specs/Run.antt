-- What the program does for its words: `crawl`, and all that `tend` does.
--     is_crawl words      whether the first word is `crawl`
--     Crawls ..      what `crawl` promises, of what a call was given and left
use Rattle.std.specs.Prelude.{◌≡◌, ◌≢◌, ℕ, ◌≤◌, Bool, false, IsTrue, List, [], ◌∷◌, ◌++◌, codes}
use Rattle.std.specs.Str.{bytes_eq}
use Rattle.crawl_traits.specs.Causes.{Rose}
use Rattle.crawl_traits.specs.declared.link.Link as links
use Rattle.crawl_traits.specs.declared.link.LinkFault.{LinkFault}
use Rattle.crawl_traits.specs.declared.stream.Sink as sinks
use Rattle.crawl_traits.specs.declared.volume.Volume as volumes
use Rattle.program_status.specs.Gains.{Gains}
use Rattle.program_status.specs.Status.{status_text}
use Rattle.program_status.specs.declared.status.Status.{Status}
use Rattle.program_status.specs.declared.status.Status.TheVariants.{Done, Full, Usage}
use Rattle.process_chains.specs.Ends.{world}
use Rattle.job_commands.specs.Causes.{IsCaused}
use Rattle.job_commands.specs.Statuses.{IsRefusal, SaysText}
use Rattle.crawl_run.specs.Crawl.{IsDone, IsFull, IsReached, crawl_causes}

-- the first word is `crawl`
abbrev pub is_crawl : List (List ℕ) → Bool
is_crawl [] = false
is_crawl (word ∷ more) = bytes_eq word (codes "crawl")

-- the words behind the first
abbrev pub words_after : List (List ℕ) → List (List ℕ)
words_after [] = []
words_after (word ∷ more) = more

-- what a call was given and left: the words behind the first, a volume, an output and a link, and how it ended
module _ {V W L : Type 0} (v : volumes.Ghosts V) (o : sinks.Ghosts W) (l : links.Ghosts L) (gives : ℕ → Type 0) (more : List (List ℕ)) (volume volume_left : V) (out out_left : W) (link link_left : L) (status : Status) where
  abbrev pub GainsLineAfter : List ℕ → Type 0
  GainsLineAfter lines = Gains (Rose (o.faults out) (o.faults out_left)) (o.written out ++ lines) (o.written out_left) (status_text status)

  -- Full comes exactly by its two numbers; only the line of the status stands behind the lines of what was recorded
  abbrev pub IsFullHere : ℕ → ℕ → Type 0
  IsFullHere known adds = IsTrue (v.tells volume) → IsTrue (o.tells out) → IsReached (v.contents volume)
      → (shown : List ℕ)
      × IsFull (λ settings. world l gives settings link link_left) gives (v.contents volume) (v.contents volume_left) (o.written out) shown (l.exchanges link) (l.exchanges link_left) known adds
      × Gains (Rose (o.faults out) (o.faults out_left)) shown (o.written out_left) (status_text (Full known adds))

  -- what `crawl` promises
  pub record Crawls : Type 0 where
    -- Usage comes exactly where another word follows
    pub usage : (more ≡ [] → (i : ℕ) → status ≢ Usage i) × (more ≢ [] → status ≡ Usage 1)
    -- nothing will go any more, and what went is recorded
    pub done : status ≡ Done → IsTrue (v.tells volume) → IsTrue (o.tells out) → IsReached (v.contents volume)
        → IsDone (λ settings. world l gives settings link link_left) gives (v.contents volume) (v.contents volume_left) (o.written out) (o.written out_left) (l.exchanges link) (l.exchanges link_left)
    pub caused : more ≡ [] → status ≢ Done
        → IsCaused (crawl_causes (Rose (v.faults volume) (v.faults volume_left)) (Rose (o.faults out) (o.faults out_left)) IsFullHere (v.tells volume) (v.contents volume)) status
    -- a refusal changes no byte
    pub kept : IsRefusal status → v.contents volume_left ≡ v.contents volume
    -- the status's line stands behind lines of visits, and behind none where the call was refused
    pub said : SaysText status → IsTrue (o.tells out) → (lines : List ℕ) × GainsLineAfter lines
    pub refused : IsRefusal status → IsTrue (o.tells out) → GainsLineAfter []
    -- no count falls
    pub later : (v.faults volume ≤ v.faults volume_left) × (o.faults out ≤ o.faults out_left)
    pub link_later : (fault : LinkFault) → l.faults link fault ≤ l.faults link_left fault
    pub link_tells : l.tells link_left ≡ l.tells link
