-- A journal in a volume, between calls and during them.
--     Rests of journal volume events      its file holds these events, on the disk
--     KeepsEvents, KeepsReading, HoldsMore, OthersStay      what a call may do to its file, and to the others
use Rattle.std.specs.Prelude.{◌≡◌, ◌≢◌, ◌⊎◌, ℕ, List, ◌++◌}
use Rattle.crawl_kinds.specs.declared.event.Event.{Event}
use Rattle.crawl_traits.specs.Images.{Image}
use Rattle.crawl_traits.specs.declared.file.FileId.{FileId}
use Rattle.crawl_traits.specs.declared.volume.Volume.{Ghosts}
use Rattle.gate_log.specs.Logs.{file_of, IsAtRest}
use Rattle.gate_log.specs.Reading.{placed}
use Rattle.recover_journal.specs.Holds.{journal_file, AreEvents, Holds, HoldsEvents}
use Rattle.recover_journal.specs.Faults.{IsJournalDamage}
use Rattle.recover_journal.specs.declared.journal.Journal.{Journal}

-- its log is that of the first segment and at rest, and the bodies of its blocks are the lines of these events
pub record Rests {V : Type 0} (of : Ghosts V) (journal : Journal) (volume : V) (events : List Event) : Type 0 where
  pub file : file_of journal.log ≡ journal_file
  pub bodies : List (List ℕ)
  pub log : IsAtRest of journal.log volume bodies
  pub gates : List ℕ
  pub lines : AreEvents (placed 0 bodies) events gates

-- the events that the file held it holds still, under the same gates
abbrev pub KeepsEvents : List ℕ → List ℕ → Type 0
KeepsEvents before after = (events : List Event) (gates : List ℕ) → Holds events gates before → Holds events gates after

-- and where it was damaged it is damaged still
pub record KeepsReading (before after : List ℕ) : Type 0 where
  pub events : KeepsEvents before after
  pub damage : (at : ℕ) → IsJournalDamage at before → IsJournalDamage at after

-- the file holds these events, or these and more
abbrev pub HoldsMore : List Event → List Event → List ℕ → List ℕ → Type 0
HoldsMore events more before after = HoldsEvents events after ⊎ HoldsEvents (events ++ more) after

-- the other files hold what they held
abbrev pub OthersStay : Image → Image → Type 0
OthersStay before after = (other : FileId) → other ≢ journal_file → after other ≡ before other
