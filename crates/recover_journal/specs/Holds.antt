-- The events that the file of a journal holds.
--     AreEvents blocks events gates      the bodies of blocks are the lines of these events
--     Holds events gates file      a file holds these events, each under the gate of its block
use Rattle.std.specs.Prelude.{◌≡◌, ℕ, List, [], ◌∷◌, ◌++◌, length, replicate}
use Rattle.crawl_kinds.specs.declared.event.Event.{Event}
use Rattle.crawl_traits.specs.declared.file.FileId.{FileId}
use Rattle.crawl_traits.specs.declared.file.FileId.TheVariants.{Journal}
use Rattle.gate_log.specs.Reading.{AreBlocksOf}
use Rattle.gate_log.specs.declared.block.Block.{Block}
use Rattle.journal_valid.specs.Valid.{IsSpelled}

-- the first segment
abbrev pub journal_file : FileId
journal_file = Journal 0

-- events and their gates: first those of a block, whose lines are its body, each under its gate, and then others
pub record BeginWith (block : Block) (others : List Event → List ℕ → Type 0) (events : List Event) (gates : List ℕ) : Type 0 where
  pub own : List Event
  pub rest : List Event
  pub more : List ℕ
  pub lines : IsSpelled own block.body
  pub events_are : events ≡ own ++ rest
  pub gates_are : gates ≡ replicate (length own) block.gate ++ more
  pub behind : others rest more

-- the bodies of the blocks are the lines of these events, each those of whole events, which are one or more since no body
-- is empty; and each event has its block's gate
abbrev pub AreEvents : List Block → List Event → List ℕ → Type 0
AreEvents [] events gates = (events ≡ []) × (gates ≡ [])
AreEvents (block ∷ blocks) events gates = BeginWith block (AreEvents blocks) events gates

-- the file counts blocks whose bodies are the lines of these events, and each event has the gate of its block
pub record Holds (events : List Event) (gates : List ℕ) (file : List ℕ) : Type 0 where
  pub blocks : List Block
  pub counted : AreBlocksOf blocks file
  pub lines : AreEvents blocks events gates

-- the file holds these events, wherever their gates are
abbrev pub HoldsEvents : List Event → List ℕ → Type 0
HoldsEvents events file = (gates : List ℕ) × Holds events gates file
