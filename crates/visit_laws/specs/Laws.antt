-- What follows for visits behind visits.
--     IsWithin part whole      what is so in a part of the time is so in the whole
--     Stretch, world_in      a part of a crawl's time, and what its work is processed under
--     IsOnward of before after      what a link keeps from one state to a later one
--     VisitLaws      where the next record goes, and that visits follow visits
use Rattle.std.specs.Prelude.{◌≡◌, ℕ, ◌+◌, ◌≤◌, false, IsTrue, List, [], ◌++◌, length, take}
use Rattle.crawl_kinds.specs.declared.event.Event.{Event}
use Rattle.crawl_kinds.specs.declared.settings.Settings.{Settings}
use Rattle.crawl_traits.specs.declared.link.Exchange.{Exchange}
use Rattle.crawl_traits.specs.declared.link.Link.{Ghosts as LinkGhosts}
use Rattle.crawl_traits.specs.declared.link.LinkFault.{LinkFault}
use Rattle.crawl_traits.specs.declared.volume.Volume.{Ghosts}
use Rattle.frontier_core.specs.Core.{Core}
use Rattle.process_chains.specs.Ends.{World, world}
use Rattle.recover_journal.specs.Rest.{Rests}
use Rattle.recover_journal.specs.declared.journal.Journal.{Journal}
use Rattle.visit_spec.specs.Crawled.{IsRefused, Keeps, Others, next_place, warc_file}
use Rattle.visit_spec.specs.Visits.{AreVisits, Visit, events, warc}

-- The whole gives the moments of the part; counts that rose in the part rose in the whole; and where the part left no
-- connection the whole leaves none.
pub record IsWithin (part whole : World) : Type 0 where
  pub given : (moment : ℕ) → part.gives moment → whole.gives moment
  pub rose : (fault : LinkFault) → part.rose fault → whole.rose fault
  pub tells : part.tells ≡ whole.tells
  pub connected : IsTrue whole.tells → part.connected ≡ false → whole.connected ≡ false
  pub settings : part.settings ≡ whole.settings

-- a part of the time of a crawl: its clock, its settings, and the link at its start and now
pub record Stretch (C L : Type 0) : Type 0 where
  pub clock : C
  pub settings : Settings
  pub start : L
  pub now : L

-- what is processed in that time is processed under this
abbrev pub world_in : {C L : Type 0} → LinkGhosts L → (C → ℕ → Type 0) → Stretch C L → World
world_in link gives time = world link (gives time.clock) time.settings time.start time.now

-- no count of faults fell, it tells as it did, and where there was no connection there is none
pub record IsOnward {L : Type 0} (link : LinkGhosts L) (before after : L) : Type 0 where
  pub later : (fault : LinkFault) → link.faults before fault ≤ link.faults after fault
  pub tells : link.tells after ≡ link.tells before
  pub shut : IsTrue (link.tells before) → link.connected before ≡ false → link.connected after ≡ false

-- of any volume, over the worlds that any link and any clock make
pub record VisitLaws {V C L : Type 0} (of : Ghosts V) (link : LinkGhosts L) (gives : C → ℕ → Type 0) : Type 0 where
  -- the time to a state of the link, and that from it on, are within the whole
  pub within :
      (clock : C) (own settings : Settings) (start middle now : L) → own ≡ settings → IsOnward link start middle → IsOnward link middle now
      → IsWithin (world link (gives clock) own start middle) (world link (gives clock) settings start now)
      × IsWithin (world link (gives clock) own middle now) (world link (gives clock) settings start now)
  -- the next record goes behind those of the visits, into the same file
  pub place :
      (time : Stretch C L) (old new : Core) (visits : List Visit) → AreVisits (world_in link gives time) old new visits
      → next_place new ≡ record { file = (next_place old).file; end = (next_place old).end + length (warc visits) }
  -- and where the file reached that far before, it ends there behind them
  pub ends :
      (time : Stretch C L) (old new : Core) (held : List Event) (journal : Journal) (volume left : V)
      (written shown : List ℕ) (went gone : List Exchange) (visits : List Visit) (seen : List Exchange)
      → (next_place old).end ≤ length (of.contents volume (warc_file (next_place old)))
      → Keeps of (world_in link gives time) old new held journal volume left written shown went gone visits seen
      → length (of.contents left (warc_file (next_place new))) ≡ (next_place new).end
  -- no visits are kept by a journal that rests and a file that is cut off behind its last cited record
  pub none :
      (time : Stretch C L) (core : Core) (held : List Event) (journal : Journal) (volume left : V)
      (written : List ℕ) (went gone seen : List Exchange)
      → Rests of journal left held
      → of.contents left (warc_file (next_place core)) ≡ take (next_place core).end (of.contents volume (warc_file (next_place core)))
      → Others (warc_file (next_place core)) (of.contents volume) (of.contents left)
      → (IsTrue (link.tells time.start) → gone ≡ went ++ seen)
      → Keeps of (world_in link gives time) core core held journal volume left written written went gone [] seen
  -- visits that were kept behind visits that were kept are kept together
  pub behind :
      (first second whole : Stretch C L) (old mid new : Core) (held : List Event) (between after : Journal) (volume middle left : V)
      (written printed shown : List ℕ) (went gone all : List Exchange) (visits more : List Visit) (seen : List Exchange)
      → IsWithin (world_in link gives first) (world_in link gives whole) → IsWithin (world_in link gives second) (world_in link gives whole)
      → (next_place old).end ≤ length (of.contents volume (warc_file (next_place old)))
      → Keeps of (world_in link gives first) old mid held between volume middle written printed went gone visits []
      → Keeps of (world_in link gives second) mid new (held ++ events visits) after middle left printed shown gone all more seen
      → Keeps of (world_in link gives whole) old new held after volume left written shown went all (visits ++ more) seen
  -- what was refused in a part of the time was refused in the whole
  pub refused :
      (part whole : Stretch C L) (core : Core) (known adds : ℕ) (seen : List Exchange)
      → IsWithin (world_in link gives part) (world_in link gives whole)
      → IsRefused (world_in link gives part) core known adds seen → IsRefused (world_in link gives whole) core known adds seen
