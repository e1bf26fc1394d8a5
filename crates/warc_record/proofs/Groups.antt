-- Base32 group by group.
use Rattle.std.proofs.Common.{◌≡◌, ℕ, ◌≤◌, List, [], ◌∷◌, ◌++◌, length, drop, get_or, refl, arith}
use Rattle.record_spec.specs.Base32.{base32, group_text, group_number}

-- the letters of the first five bytes, and those of the others
pub base32-group : (bytes : List ℕ) → 5 ≤ length bytes → base32 bytes ≡ group_text (group_number (get_or bytes 0 0) (get_or bytes 1 0) (get_or bytes 2 0) (get_or bytes 3 0) (get_or bytes 4 0)) ++ base32 (drop 5 bytes)
base32-group [] h = absurd (omega arith)
base32-group (a ∷ []) h = absurd (omega arith)
base32-group (a ∷ b ∷ []) h = absurd (omega arith)
base32-group (a ∷ b ∷ c ∷ []) h = absurd (omega arith)
base32-group (a ∷ b ∷ c ∷ d ∷ []) h = absurd (omega arith)
base32-group (a ∷ b ∷ c ∷ d ∷ e ∷ others) h = refl
