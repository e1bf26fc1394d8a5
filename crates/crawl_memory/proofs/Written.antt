-- Bytes that were made long enough and then written over.
use Rattle.std.proofs.Common.{◌≡◌, inl, inr, ℕ, ◌+◌, ◌-◌, List, ◌++◌, length, take, drop, replicate, sym, ◌∙◌, ap, arith, length-append}
use Rattle.std.proofs.lemmas.List.{take_all, drop_all, append-nil, take-append-le, take-replicate, length-replicate}
use Rattle.std.proofs.lemmas.Bool.{cases_lt}
use Rattle.std.proofs.Math.Seq.{take-append-add}
use Rattle.crawl_traits.specs.Images.{written}

-- long enough bytes end as they did
drop_reached : (old : List ℕ) (end : ℕ) → drop end (old ++ replicate (end - length old) 0) ≡ drop end old
drop_reached old end = elim (cases_lt (length old) end) [
  | inl past ↦
      drop_all end (old ++ replicate (end - length old) 0) (omega (arith, length-append old (replicate (end - length old) 0), length-replicate {A = ℕ} (end - length old) 0))
      ∙ sym (drop_all end old (omega arith))
  | inr within ↦
      let none : end - length old ≡ 0 = omega arith in
      ap (λ (n : ℕ). drop end (old ++ replicate n 0)) none ∙ ap (drop end) (append-nil old)
]

-- and begin as they did, with zeros behind
take_reached : (old : List ℕ) (at n : ℕ) → take at (old ++ replicate (at + n - length old) 0) ≡ take at old ++ replicate (at - length old) 0
take_reached old at n = elim (cases_lt (length old) at) [
  | inl past ↦
      let split : at ≡ length old + (at - length old) = omega arith in
      ap (λ (k : ℕ). take k (old ++ replicate (at + n - length old) 0)) split
      ∙ take-append-add old (replicate (at + n - length old) 0) (at - length old)
      ∙ ap (λ (l : List ℕ). old ++ l) (take-replicate (at - length old) (at + n - length old) 0 (omega arith))
      ∙ ap (λ (l : List ℕ). l ++ replicate (at - length old) 0) (sym (take_all at old (omega arith)))
  | inr within ↦
      let none : at - length old ≡ 0 = omega arith in
      take-append-le at old _ within ∙ sym (ap (λ (k : ℕ). take at old ++ replicate k 0) none ∙ append-nil (take at old))
]

pub written_whole : (at len : ℕ) (from old reached whole : List ℕ) → reached ≡ old ++ replicate (at + length from - length old) 0 → whole ≡ take at reached ++ from ++ drop (at + length from) reached → len ≡ length reached → length whole ≡ length reached
    → take len (whole ++ drop (length whole) reached) ≡ written at from old
written_whole at len from old reached whole reached_is is len_is long =
    take-append-le len whole (drop (length whole) reached) (omega (arith, len_is, long)) ∙ take_all len whole (omega (arith, len_is, long)) ∙ is
    ∙ ap (λ (l : List ℕ). take at l ++ from ++ drop (at + length from) l) reached_is
    ∙ ap (λ (l : List ℕ). l ++ from ++ drop (at + length from) (old ++ replicate (at + length from - length old) 0)) (take_reached old at (length from))
    ∙ ap (λ (l : List ℕ). take at old ++ replicate (at - length old) 0 ++ from ++ l) (drop_reached old (at + length from))
