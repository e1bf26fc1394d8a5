-- A walk up to the first place of a kind.
use Rattle.std.proofs.Common.{◌≡◌, ℕ, ◌+◌, ◌<◌, ◌≤◌, Bool, true, false, List, length, drop, arith}
use Rattle.link_spec.specs.Cut.{before_where}
use Rattle.link_spec.proofs.Cuts.{before_where-more, before_where-here, before_where-end}

pub walk-more : (p : List ℕ → Bool) (text : List ℕ) (k all : ℕ) → k < length text → p (drop k text) ≡ false → k + before_where p (drop k text) ≡ all → (k + 1) + before_where p (drop (k + 1) text) ≡ all
walk-more p text k all h e w = let step = before_where-more p text k h e in omega (arith, step, w)

pub walk-here : (p : List ℕ → Bool) (text : List ℕ) (k all : ℕ) → p (drop k text) ≡ true → k + before_where p (drop k text) ≡ all → k ≡ all
walk-here p text k all e w = let step = before_where-here p (drop k text) e in omega (arith, step, w)

pub walk-end : (p : List ℕ → Bool) (text : List ℕ) (k all : ℕ) → length text ≤ k → k + before_where p (drop k text) ≡ all → k ≡ all
walk-end p text k all h w = let step = before_where-end p text k h in omega (arith, step, w)
