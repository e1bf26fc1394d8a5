-- Few draw, so no two tickets that are out are one number modulo 2 ^ 64.
use Rattle.std.proofs.Common.{◌≡◌, ◌≢◌, ℕ, zero, suc, ◌+◌, ◌-◌, ◌%◌, ◌^◌, ◌<◌, ◌≤◌, eqb, sym, ap, ◌∙◌, subst, arith, eq-eqb, ne_eqb}
use mathlib.Core.Logic.{dite}
use native.Mathlib.Decide.{ℕ_discrete}
use prog.Atomic.{either}
use Rattle.atomic_table.proofs.Lists.{one_turn}

-- a value that is n becomes a
hit_is : (k n a : ℕ) → k ≡ n → either (eqb k n) a k ≡ a
hit_is k n a e = ap (λ b. either b a k) (eq-eqb k n e)

-- any other stays
miss_is : (k n a : ℕ) → k ≢ n → either (eqb k n) a k ≡ k
miss_is k n a e = ap (λ b. either b a k) (ne_eqb k n e)

-- m places with different numbers below n are at most n
pub pigeon : (n m : ℕ) (f : ℕ → ℕ) → ((k : ℕ) → k < m → f k < n) → ((i j : ℕ) → i < m → j < m → f i ≡ f j → i ≡ j) → m ≤ n
pigeon n zero f below apart = omega arith
pigeon zero (suc m) f below apart = let h = below 0 (omega arith) in omega arith
pigeon (suc n) (suc m) f below apart = let a : ℕ = f m in let g : ℕ → ℕ = λ k. either (eqb (f k) n) a (f k) in
    let last : a < suc n = below m (omega arith) in
    let h = pigeon n m g
    (λ k l. dite (ℕ_discrete (f k) n)
    (λ e. let ne : a ≢ n = λ z. let same : k ≡ m = apart k m (omega arith) (omega arith) (e ∙ sym z) in omega arith in subst (λ z. z < n) (sym (hit_is (f k) n a e)) (omega arith))
    (λ ne. let b : f k < suc n = below k (omega arith) in subst (λ z. z < n) (sym (miss_is (f k) n a ne)) (omega arith)))
    (λ i j li lj e. dite (ℕ_discrete (f i) n)
    (λ hi. dite (ℕ_discrete (f j) n)
    (λ hj. apart i j (omega arith) (omega arith) (hi ∙ sym hj))
    (λ nj. let same : m ≡ j = apart m j (omega arith) (omega arith) (sym (hit_is (f i) n a hi) ∙ e ∙ miss_is (f j) n a nj) in absurd (omega arith)))
    (λ ni. dite (ℕ_discrete (f j) n)
    (λ hj. let same : i ≡ m = apart i m (omega arith) (omega arith) (sym (miss_is (f i) n a ni) ∙ e ∙ hit_is (f j) n a hj) in absurd (omega arith))
    (λ nj. apart i j (omega arith) (omega arith) (sym (miss_is (f i) n a ni) ∙ e ∙ miss_is (f j) n a nj)))) in
    omega arith

-- where each ticket that is out has a caller of its own below n, at most n are out
pub few_out : (n serving ticket : ℕ) (caller : ℕ → ℕ) → serving ≤ ticket → ((t : ℕ) → serving ≤ t → t < ticket → caller t < n)
    → ((t u : ℕ) → serving ≤ t → t < ticket → serving ≤ u → u < ticket → caller t ≡ caller u → t ≡ u) → ticket ≤ serving + n
few_out n serving ticket caller order below apart =
    let h = pigeon n (ticket - serving) (λ k. caller (serving + k)) (λ k l. below (serving + k) (omega arith) (omega arith))
    (λ i j li lj e. let same : serving + i ≡ serving + j = apart (serving + i) (serving + j) (omega arith) (omega arith) (omega arith) (omega arith) e in omega arith) in
    omega arith

-- so the word tells the ticket that is served
pub ticket_is : (serving ticket t : ℕ) → ticket ≤ serving + 32 → serving ≤ t → t < ticket → serving % 2 ^ 64 ≡ t % 2 ^ 64 → serving ≡ t
ticket_is serving ticket t few low high same = one_turn serving t (2 ^ 64) low (omega arith) same
