-- The first element that passes a test.
use Rattle.std.proofs.Common.{◌≡◌, ℕ, ◌≤◌, Some, None, Bool, not, List, length, arith, unwrap_or, cond, nat_lt}
use Rattle.std.specs.List.{position, position_or_len}
use Rattle.std.proofs.lemmas.List.Sums.{prefix_len-le-length}
use Rattle.std.proofs.lemmas.Grind.{common_steps}

cond-unwrap : (n m : ℕ) → n ≤ m → unwrap_or (cond (nat_lt n m) (Some n) None) m ≡ n
cond-unwrap n m h = grind (arith, common_steps)

pub position-unwrap : {X : Type 0} (p : X → Bool) (xs : List X) → unwrap_or (position p xs) (length xs) ≡ position_or_len p xs
position-unwrap p xs = cond-unwrap (position_or_len p xs) (length xs) (prefix_len-le-length (λ x. not (p x)) xs)
