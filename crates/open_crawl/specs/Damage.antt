-- A journal that is no crawl's.
--     IsUnfitAt events gates at      the first event that can't stand is in the block at this gate
--     IsCrawlDamage at file      the file is damaged at this gate, or an event of the block there can't stand
use Rattle.std.specs.Prelude.{◌≡◌, ◌⊎◌, ℕ, List, Some, slice_get}
use Rattle.crawl_kinds.specs.declared.event.Event.{Event}
use Rattle.frontier_memo.specs.Fits.{IsFirstUnfit}
use Rattle.recover_journal.specs.Holds.{Holds}
use Rattle.recover_journal.specs.Faults.{IsJournalDamage}

-- of events with the gates of their blocks, the first that can't stand after those before it has this gate
pub record IsUnfitAt (events : List Event) (gates : List ℕ) (at : ℕ) : Type 0 where
  pub index : ℕ
  pub unfit : IsFirstUnfit events index
  pub gate : slice_get gates index ≡ Some at

-- the journal holds events of which the first that can't stand has this gate
pub record HoldsUnfit (at : ℕ) (file : List ℕ) : Type 0 where
  pub events : List Event
  pub gates : List ℕ
  pub holds : Holds events gates file
  pub unfit : IsUnfitAt events gates at

-- the journal is no crawl's: it is damaged at this gate, or an event of the block there can't stand
abbrev pub IsCrawlDamage : ℕ → List ℕ → Type 0
IsCrawlDamage at file = IsJournalDamage at file ⊎ HoldsUnfit at file
