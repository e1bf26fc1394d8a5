-- What the calls of a volume do to its files, and what a crash may do between two syncs.
--     Image      what each file holds
--     Written, TornWrite; Shortened, TornCut      a write and a cut that were done whole, or in part
--     InFile file step      one file takes a step, and the others stay
--     After file step images      one of these images, after a step of one file
--     Follows, Fewer      how what a crash may leave goes on from one moment to the next
--     Only file bytes images      of this file a crash leaves these bytes alone
--     Elapses      what a crash may have left since an earlier moment
use Rattle.std.specs.Prelude.{◌≡◌, ◌≢◌, ◌⊎◌, ℕ, ◌+◌, ◌-◌, ◌≤◌, min, max, List, ◌++◌, length, take, drop, replicate}
use Rattle.crawl_traits.specs.declared.file.FileId.{FileId}

-- what each file holds; one that was never written holds nothing
abbrev pub Image : Type 0
Image = FileId → List ℕ

-- bytes with others written over them from a place on, and zero bytes between where they end before it
abbrev pub written : ℕ → List ℕ → List ℕ → List ℕ
written at bytes old = take at old ++ replicate (at - length old) 0 ++ bytes ++ drop (at + length bytes) old

-- after a write that was done
abbrev pub Written : ℕ → List ℕ → List ℕ → List ℕ → Type 0
Written at bytes old new = new ≡ written at bytes old

-- after a write of n bytes, all or in part: any bytes in the range and past the old end, the same elsewhere
pub record TornWrite (at n : ℕ) (old new : List ℕ) : Type 0 where
  pub before : take (min at (length old)) new ≡ take at old
  pub after : drop (at + n) new ≡ drop (at + n) old
  pub no_shorter : length old ≤ length new
  pub no_longer : length new ≤ max (length old) (at + n)

-- after a cut that was done
abbrev pub Shortened : ℕ → List ℕ → List ℕ → Type 0
Shortened to old new = new ≡ take to old

-- after a cut, all or in part: the same before it, any bytes behind it, and some end between
pub record TornCut (to : ℕ) (old new : List ℕ) : Type 0 where
  pub before : take to new ≡ take to old
  pub no_shorter : min to (length old) ≤ length new
  pub no_longer : length new ≤ length old

-- one file took a step, and the others stay
pub record InFile (file : FileId) (step : List ℕ → List ℕ → Type 0) (old new : Image) : Type 0 where
  pub here : step (old file) (new file)
  pub elsewhere : (other : FileId) → other ≢ file → new other ≡ old other

-- one of these images, after a step of one file
pub record After (file : FileId) (step : List ℕ → List ℕ → Type 0) (images : Image → Type 0) (new : Image) : Type 0 where
  pub old : Image
  pub was : images old
  pub by : InFile file step old new

-- each image that a crash may leave now is one that it might have left before, after a step of one file
abbrev pub Follows : FileId → (List ℕ → List ℕ → Type 0) → (Image → Type 0) → (Image → Type 0) → Type 0
Follows file step old new = (i : Image) → new i → After file step old i

-- a crash leaves nothing that it might not have left before
abbrev pub Fewer : (Image → Type 0) → (Image → Type 0) → Type 0
Fewer old new = (i : Image) → new i → old i

-- of this file a crash leaves these bytes and nothing else
abbrev pub Only : FileId → List ℕ → (Image → Type 0) → Type 0
Only file bytes images = (i : Image) → images i → i file ≡ bytes

-- time goes on: a crash since t might have left what it might have left before, or what it may leave now
pub record Elapses (before now : ℕ) (past since : ℕ → Image → Type 0) (may_leave : Image → Type 0) : Type 0 where
  pub later : before ≤ now
  pub nothing_else : (t : ℕ) (i : Image) → t ≤ before → since t i → past t i ⊎ may_leave i
  pub keeps : (t : ℕ) (i : Image) → t ≤ before → past t i → since t i
