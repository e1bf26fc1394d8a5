-- What a caller of the lock shows of its own rule `holds`, which speaks of the value and of all views. Pass number `pass` has the view v.
use Rattle.std.specs.Prelude.{◌≡◌, ℕ, ◌<◌, List, [], ◌∷◌, ◌++◌, slice_set}
use mathlib.Core.Option.{some}
use lib.ListN.{get_elem?}

module _ {S V : Type 0} (holds : S → List V → Type 0) where
  -- the value may go from x to y: this pass, which still may draw, has a new view that keeps the rule, and `then` tells of both
  abbrev pub Advances : (V → Type 0) → ℕ → V → S → S → (V → S → S → V → Type 0) → Type 0
  Advances may pass v x y then =
      (views : List V) → holds x views → get_elem? views pass ≡ some v
      → (w : V) × holds y (slice_set views pass w) × may w × then v x y w

  -- the view may be cut into two, the second for a new pass
  abbrev pub Forks : ℕ → V → V → V → Type 0
  Forks pass v left right =
      (x : S) (views : List V) → holds x views → get_elem? views pass ≡ some v
      → holds x (slice_set views pass left ++ right ∷ [])

  -- the view may take in that of another pass, which is spent
  abbrev pub Merges : ℕ → V → ℕ → V → V → V → Type 0
  Merges pass v other w both spent =
      (x : S) (views : List V) → holds x views → get_elem? views pass ≡ some v
      → ¬ (other ≡ pass) → get_elem? (slice_set views pass both) other ≡ some w
      → holds x (slice_set (slice_set views pass both) other spent)

  -- the rule tells this of the view
  abbrev pub Tells : ℕ → V → (V → Type 0) → Type 0
  Tells pass v fact = (x : S) (views : List V) → holds x views → get_elem? views pass ≡ some v → fact v

  -- the rule tells this of the view and the value
  abbrev pub Shows : ℕ → V → (V → S → Type 0) → Type 0
  Shows pass v told = (x : S) (views : List V) → holds x views → get_elem? views pass ≡ some v → told v x

  -- at most 32 views may draw, each under a number of its own
  abbrev pub Few : (V → Type 0) → (V → ℕ) → Type 0
  Few may name =
      (x : S) (views : List V) → holds x views
      → ((j : ℕ) (v : V) → get_elem? views j ≡ some v → may v → name v < 32)
      × ((i j : ℕ) (u v : V) → get_elem? views i ≡ some u → get_elem? views j ≡ some v → may u → may v → name u ≡ name v → i ≡ j)

  -- no other view may draw
  abbrev pub Alone : (V → Type 0) → ℕ → V → Type 0
  Alone may pass v =
      (x : S) (views : List V) → holds x views → get_elem? views pass ≡ some v
      → (j : ℕ) (u : V) → get_elem? views j ≡ some u → may u → j ≡ pass

  -- the value and the views that the rule holds of at the end, this one among them
  abbrev pub Ends : ℕ → V → S → Type 0
  Ends pass v x = (views : List V) × holds x views × (get_elem? views pass ≡ some v)
