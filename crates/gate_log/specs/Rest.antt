-- A log's file in a volume, between calls and during them.
--     RestsAt of volume file gate bodies      the file holds these blocks, on the disk, and its next gate stands there
--     CountsOneMore, KeepsCount, Emptied, Anything      what a call may do to what the file counts
use Rattle.std.specs.Prelude.{◌≡◌, ◌⊎◌, ℕ, ◌≤◌, max, List, [], ◌∷◌, ◌++◌, length, IsTrue}
use Rattle.crawl_traits.specs.Images.{Only}
use Rattle.crawl_traits.specs.declared.file.FileId.{FileId}
use Rattle.crawl_traits.specs.declared.volume.Volume.{Ghosts}
use Rattle.gate_log.specs.Blocks.{blocks, Counts, EndsAt}

-- the volume is honest, and a crash now leaves of this file what a read gives
pub record IsOnDisk {V : Type 0} (of : Ghosts V) (volume : V) (file : FileId) : Type 0 where
  pub tells : IsTrue (of.tells volume)
  pub only : Only file (of.contents volume file) (of.may_leave volume)

-- the volume is honest, its file has these blocks and a closed gate at this place, all of it on the disk
pub record RestsAt {V : Type 0} (of : Ghosts V) (volume : V) (file : FileId) (gate : ℕ) (bodies : List (List ℕ)) : Type 0 where
  pub disk : IsOnDisk of volume file
  pub ends : EndsAt bodies (of.contents volume file)
  pub place : gate ≡ length (blocks bodies)

-- the file counts these bodies, or these and one more
abbrev pub CountsOneMore : List (List ℕ) → List ℕ → List ℕ → List ℕ → Type 0
CountsOneMore bodies body before after = Counts bodies after ⊎ Counts (bodies ++ body ∷ []) after

-- what the file counted it counts still
abbrev pub KeepsCount : List ℕ → List ℕ → Type 0
KeepsCount before after = (bodies : List (List ℕ)) → Counts bodies before → Counts bodies after

-- a file that is emptied is never longer than it was, but for one byte
abbrev pub Emptied : List ℕ → List ℕ → Type 0
Emptied before after = length after ≤ max (length before) 1

-- anything may stand there
abbrev pub Anything : List ℕ → List ℕ → Type 0
Anything before after = Unit {0}
