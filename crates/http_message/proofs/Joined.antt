-- A text that grows piece by piece.
use Rattle.std.proofs.Common.{◌≡◌, ℕ, List, ◌++◌, append_assoc}

pub joined3 : (s0 s1 s2 s3 a b c : List ℕ) → s1 ≡ s0 ++ a → s2 ≡ s1 ++ b → s3 ≡ s2 ++ c → s3 ≡ s0 ++ ((a ++ b) ++ c)
joined3 s0 s1 s2 s3 a b c e1 e2 e3 = rw (e3, e2, e1) (simp append_assoc)

pub joined5 : (s0 s1 s2 s3 s4 s5 a b c d e : List ℕ) → s1 ≡ s0 ++ a → s2 ≡ s1 ++ b → s3 ≡ s2 ++ c → s4 ≡ s3 ++ d → s5 ≡ s4 ++ e
    → s5 ≡ s0 ++ (a ++ (b ++ (c ++ (d ++ e))))
joined5 s0 s1 s2 s3 s4 s5 a b c d e e1 e2 e3 e4 e5 = rw (e5, e4, e3, e2, e1) (simp append_assoc)
