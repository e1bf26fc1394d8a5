-- Totals of a list of shares.
use Rattle.std.proofs.Common.{◌≡◌, ◌≢◌, ℕ, zero, suc, ◌+◌, ◌≤◌, List, [], ◌∷◌, ◌++◌, set, sym, refl, ap, arith}
use mathlib.Core.Option.{some, some-injective, some-ne-none}
use lib.ListN.{get_elem?}
use Rattle.turn_client.specs.declared.share.Share.{Share}
use Rattle.turn_client.specs.Shares.{total}

module _ (f : Share → ℕ) where
  pub total_set : (views : List Share) (i : ℕ) (v w : Share) → get_elem? views i ≡ some v → total f (set views i w) + f v ≡ total f views + f w
  total_set [] i v w e = absurd (some-ne-none v (sym e))
  total_set (x ∷ xs) zero v w e = let s : f x ≡ f v = ap f (some-injective x v e) in omega arith
  total_set (x ∷ xs) (suc i) v w e = let r = total_set xs i v w e in omega arith

  pub total_snoc : (views : List Share) (w : Share) → total f (views ++ w ∷ []) ≡ total f views + f w
  total_snoc [] w = omega arith
  total_snoc (x ∷ xs) w = let r = total_snoc xs w in omega arith

  pub total_at : (views : List Share) (i : ℕ) (v : Share) → get_elem? views i ≡ some v → f v ≤ total f views
  total_at [] i v e = absurd (some-ne-none v (sym e))
  total_at (x ∷ xs) zero v e = let s : f x ≡ f v = ap f (some-injective x v e) in omega arith
  total_at (x ∷ xs) (suc i) v e = let r = total_at xs i v e in omega arith

  total_none : (views : List Share) → ((j : ℕ) (u : Share) → get_elem? views j ≡ some u → f u ≡ 0) → total f views ≡ 0
  total_none [] none_has = refl
  total_none (x ∷ xs) none_has = let s = none_has 0 x refl in let r = total_none xs (λ j u e. none_has (suc j) u e) in omega arith

  -- where the others have nothing, one has the total
  pub total_only : (views : List Share) (i : ℕ) (v : Share) → get_elem? views i ≡ some v → ((j : ℕ) (u : Share) → get_elem? views j ≡ some u → j ≢ i → f u ≡ 0) → total f views ≡ f v
  total_only [] i v e others = absurd (some-ne-none v (sym e))
  total_only (x ∷ xs) zero v e others = let s : f x ≡ f v = ap f (some-injective x v e) in
      let r = total_none xs (λ j u p. others (suc j) u p (λ (z : suc j ≡ 0). omega arith)) in omega arith
  total_only (x ∷ xs) (suc i) v e others = let s = others 0 x refl (λ (z : 0 ≡ suc i). omega arith) in
      let r = total_only xs i v e (λ j u p ne. others (suc j) u p (λ (z : suc j ≡ suc i). ne (let same : j ≡ i = omega arith in same))) in omega arith
