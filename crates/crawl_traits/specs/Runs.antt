-- What callers say of a run of calls on a volume.
use Rattle.std.specs.Prelude.{◌⊎◌, ℕ, ◌≤◌, IsTrue}
use Rattle.crawl_traits.specs.Images.{Image}
use Rattle.crawl_traits.specs.declared.volume.Volume.{Ghosts}

-- a crash at any moment since old leaves an image that has P
pub record LeavesOnly {V : Type 0} (of : Ghosts V) (old new : V) (P : Image → Type 0) : Type 0 where
  pub later : of.moment old ≤ of.moment new
  pub each : (i : Image) → of.left_since new (of.moment old) i → P i
  -- for a run that began earlier
  pub before : (t : ℕ) (i : Image) → t ≤ of.moment old → of.left_since new t i → of.left_since old t i ⊎ P i

-- the volume is honest, which is to tell what its files hold, and each image that a crash now may leave has P
pub record IsSettled {V : Type 0} (of : Ghosts V) (volume : V) (P : Image → Type 0) : Type 0 where
  pub tells : IsTrue (of.tells volume)
  pub each : (i : Image) → of.may_leave volume i → P i
