-- What a turn came to.
--     IsIdle result      nothing went
--     IsUnwritten result      it stopped before anything was written
--     IsNotYet gives core next      at a moment of the clock nothing may go yet
use Rattle.std.specs.Prelude.{◌≡◌, ℕ, Option, Result, Ok, Err, ⊤}
use Rattle.crawl_history.specs.Emission.{NotYet, answer}
use Rattle.crawl_history.specs.Facts.{Archive}
use Rattle.core_facts.specs.CoreFacts.{Pages}
use Rattle.frontier_core.specs.Core.{Core, facts, history, next_time}
use Rattle.frontier_core.specs.Standing.{Stands}
use Rattle.polite_crawl.specs.declared.turn.Turn.{Turn}
use Rattle.polite_crawl.specs.declared.turn.Turn.TheVariants.{Worked, Empty, Over}
use Rattle.polite_crawl.specs.declared.why.Why.{Why}
use Rattle.polite_crawl.specs.declared.why.Why.TheVariants as stopped

-- nothing may go yet, or will go any more
abbrev pub IsIdle : Result Turn Why → Type 0
IsIdle (Ok Worked) = ⊥
IsIdle (Ok (Empty next)) = ⊤
IsIdle (Ok Over) = ⊤
IsIdle (Err why) = ⊥

-- memory was wanting, or more keys would be known than the job allows
abbrev pub IsUnwritten : Result Turn Why → Type 0
IsUnwritten (Ok turn) = ⊥
IsUnwritten (Err stopped.Volume) = ⊥
IsUnwritten (Err stopped.Sink) = ⊥
IsUnwritten (Err stopped.NoMemory) = ⊤
IsUnwritten (Err (stopped.Full known adds)) = ⊤

-- at a moment of the clock nothing may go yet, whatever pages and archive are, and something next at this moment, where it is known
pub record IsNotYet (gives : ℕ → Type 0) (core : Core) (next : Option ℕ) : Type 0 where
  pub moment : ℕ
  pub given : gives moment
  pub waits :
      (pages : Pages) (a : Archive) → Stands pages a core → answer (facts core pages) a (history core) (next_time core moment) ≡ NotYet next
