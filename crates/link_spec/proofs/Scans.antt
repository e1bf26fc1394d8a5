-- The first element that passes a test, and those before it.
use Rattle.std.proofs.Common.{◌≡◌, ℕ, ◌≤◌, Some, None, Bool, true, false, not, List, [], ◌∷◌, length, refl, arith, unwrap_or, ◌∙◌, cond, nat_lt}
use Rattle.std.specs.List.{position, position_or_len, prefix_len}
use Rattle.std.proofs.lemmas.List.Sums.{prefix_len-le-length}
use Rattle.std.proofs.lemmas.Grind.{common_steps}

pub cond-unwrap : (n m : ℕ) → n ≤ m → unwrap_or (cond (nat_lt n m) (Some n) None) m ≡ n
cond-unwrap n m h = grind (arith, common_steps)

pub position-unwrap : {X : Type 0} (p : X → Bool) (xs : List X) → unwrap_or (position p xs) (length xs) ≡ position_or_len p xs
position-unwrap p xs = cond-unwrap (position_or_len p xs) (length xs) (prefix_len-le-length (λ x. not (p x)) xs)

-- where two tests agree, so do the prefixes that pass them
pub prefix_len-same : {X : Type 0} (p q : X → Bool) → ((x : X) → p x ≡ q x) → (xs : List X) → prefix_len p xs ≡ prefix_len q xs
prefix_len-same p q same [] = refl
prefix_len-same p q same (x ∷ xs) = rw (same x, prefix_len-same p q same xs) refl

pub not-not : (b : Bool) → not (not b) ≡ b
not-not true = refl
not-not false = refl

-- those before the first that fails
pub position-unwrap_not : {X : Type 0} (p : X → Bool) (xs : List X) → unwrap_or (position (λ x. not (p x)) xs) (length xs) ≡ prefix_len p xs
position-unwrap_not p xs = position-unwrap (λ x. not (p x)) xs ∙ prefix_len-same (λ x. not (not (p x))) p (λ x. not-not (p x)) xs
