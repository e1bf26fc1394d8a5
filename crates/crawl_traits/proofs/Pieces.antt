-- A text that is written piece by piece.
use Rattle.std.proofs.Common.{◌≡◌, ℕ, ◌+◌, ◌-◌, List, ◌++◌, length, take, drop, sym, ◌∙◌, ap, arith, append_assoc}
use Rattle.std.proofs.lemmas.List.{take-take, drop-take, take-append-drop, take_rest}

-- the front of a list, in two parts
take_add : (xs : List ℕ) (at n : ℕ) → take (at + n) xs ≡ take at xs ++ take n (drop at xs)
take_add xs at n =
    sym (take-append-drop at (take (at + n) xs))
    ∙ ap (λ (l : List ℕ). l ++ drop at (take (at + n) xs)) (take-take at (at + n) xs (omega arith))
    ∙ ap (λ (l : List ℕ). take at xs ++ l) (drop-take at n xs)

-- one piece more
pub written_more : (w0 w1 w2 text : List ℕ) (at n : ℕ) → w1 ≡ w0 ++ take at text → w2 ≡ w1 ++ take n (take (length text - at) (drop at text)) → w2 ≡ w0 ++ take (at + n) text
written_more w0 w1 w2 text at n e1 e2 =
    e2 ∙ ap (λ (l : List ℕ). w1 ++ take n l) (take_rest text at) ∙ ap (λ (l : List ℕ). l ++ take n (drop at text)) e1
    ∙ append_assoc w0 (take at text) (take n (drop at text))
    ∙ ap (λ (l : List ℕ). w0 ++ l) (sym (take_add text at n))
