-- Where the file of a journal holds no events.
--     IsJournalDamage at file      the gate of its first bad block
--     IsJournalFault bytes fault      a fault that says of these bytes what is true
use Rattle.std.specs.Prelude.{◌≡◌, ◌⊎◌, ℕ, List, ◌∷◌, ◌++◌}
use Rattle.crawl_kinds.specs.declared.event.Event.{Event}
use Rattle.crawl_traits.specs.declared.fault.StoreFault.{StoreFault}
use Rattle.crawl_traits.specs.declared.fault.StoreFault.TheVariants.{Volume, Damaged, NoMemory}
use Rattle.gate_log.specs.Blocks.{IsBody, IsDamagedAt}
use Rattle.gate_log.specs.Reading.{AreBlocksOf}
use Rattle.gate_log.specs.declared.block.Block.{Block}
use Rattle.journal_valid.specs.Valid.{IsSpelled}
use Rattle.recover_journal.specs.Holds.{journal_file, AreEvents}

-- the file counts blocks, and the one at this gate is the first whose body is the lines of no events
pub record IsBadBlock (at : ℕ) (file : List ℕ) : Type 0 where
  pub before : List Block
  pub block : Block
  pub behind : List Block
  pub counted : AreBlocksOf (before ++ block ∷ behind) file
  pub place : at ≡ block.gate
  pub events : List Event
  pub gates : List ℕ
  pub good : AreEvents before events gates
  pub bad : (own : List Event) → IsSpelled own block.body → ⊥

-- the file is damaged at this gate as a log of blocks, or the block there is bad
abbrev pub IsJournalDamage : ℕ → List ℕ → Type 0
IsJournalDamage at file = IsDamagedAt at file ⊎ IsBadBlock at file

-- a damage of the journal stands in its bytes
abbrev pub IsJournalFault : List ℕ → StoreFault → Type 0
IsJournalFault bytes Volume = Unit {0}
IsJournalFault bytes (Damaged file at) = (file ≡ journal_file) × IsJournalDamage at bytes
IsJournalFault bytes NoMemory = Unit {0}

-- a fault of reading one block: a whole block that is damaged holds the lines of no events
abbrev pub IsBlockFault : Block → StoreFault → Type 0
IsBlockFault block Volume = ⊥
IsBlockFault block (Damaged file at) = (file ≡ journal_file) × (at ≡ block.gate) × (IsBody block.body → (own : List Event) → IsSpelled own block.body → ⊥)
IsBlockFault block NoMemory = Unit {0}
