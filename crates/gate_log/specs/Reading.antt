-- What reading a log gives.
--     AreBlocksOf list file      the blocks of a file, each with the place of its gate
--     IsDamage file bytes fault      a fault that says of these bytes of the file what is true
use Rattle.std.specs.Prelude.{◌≡◌, ℕ, ◌+◌, List, [], ◌∷◌, map, length}
use Rattle.crawl_traits.specs.declared.file.FileId.{FileId}
use Rattle.crawl_traits.specs.declared.fault.StoreFault.{StoreFault}
use Rattle.crawl_traits.specs.declared.fault.StoreFault.TheVariants.{Volume, Damaged, NoMemory}
use Rattle.gate_log.specs.declared.block.Block.{Block}
use Rattle.gate_log.specs.declared.blocks.ReadFault.{ReadFault}
use Rattle.gate_log.specs.declared.blocks.ReadFault.TheVariants.{Starved, DamagedAt}
use Rattle.gate_log.specs.Blocks.{Counts, IsDamagedAt}

abbrev pub bodies_of : List Block → List (List ℕ)
bodies_of list = map (λ b. b.body) list

-- bodies with the places of their gates, the first at this one: a block takes its gate, eight digits, LF and its body
abbrev pub placed : ℕ → List (List ℕ) → List Block
placed at [] = []
placed at (body ∷ bodies) = record { gate = at; body = body } ∷ placed (at + 10 + length body) bodies

-- the file counts the bodies of this list, and each stands behind its gate
pub record AreBlocksOf (list : List Block) (file : List ℕ) : Type 0 where
  pub counts : Counts (bodies_of list) file
  pub places : list ≡ placed 0 (bodies_of list)

-- a fault of reading these bytes
abbrev pub IsReadFault : List ℕ → ReadFault → Type 0
IsReadFault bytes Starved = Unit {0}
IsReadFault bytes (DamagedAt at) = IsDamagedAt at bytes

-- a damage of this file stands in its bytes
abbrev pub IsDamage : FileId → List ℕ → StoreFault → Type 0
IsDamage file bytes Volume = Unit {0}
IsDamage file bytes (Damaged of_file at) = (of_file ≡ file) × IsDamagedAt at bytes
IsDamage file bytes NoMemory = Unit {0}
