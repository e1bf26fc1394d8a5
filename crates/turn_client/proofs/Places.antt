-- The places of a list.
use Rattle.std.proofs.Common.{◌≡◌, ◌⊎◌, inl, inr, ℕ, zero, suc, ◌<◌, List, [], ◌∷◌, ◌++◌, length, slice_index_or, sym, refl, subst, ⊎_elim, arith, All}
use mathlib.Core.Option.{some, some-injective, some-ne-none}
use lib.ListN.{get_elem?}

module _ {A : Type 0} where
  -- an element at the end, or before it
  pub snoc_at : (l : List A) (a b : A) (j : ℕ) → get_elem? (l ++ a ∷ []) j ≡ some b → (get_elem? l j ≡ some b) ⊎ ((j ≡ length l) × (a ≡ b))
  snoc_at [] a b zero e = inr (refl, some-injective a b e)
  snoc_at [] a b (suc j) e = absurd (some-ne-none b (sym e))
  snoc_at (x ∷ xs) a b zero e = inl e
  snoc_at (x ∷ xs) a b (suc j) e = ⊎_elim (λ p. inl p) (λ (p : (j ≡ length xs) × (a ≡ b)). let s : j ≡ length xs = p.0 in inr (omega arith, p.1)) (snoc_at xs a b j e)

  -- an index in range finds an element
  pub in_range : (l : List A) (k : ℕ) → k < length l → (a : A) × (get_elem? l k ≡ some a) × ((d : A) → slice_index_or l k d ≡ a)
  in_range [] k low = absurd (omega arith)
  in_range (x ∷ xs) zero low = (x, refl, λ d. refl)
  in_range (x ∷ xs) (suc k) low = in_range xs k (omega arith)

  -- where an element is found the index is in range
  pub found : (l : List A) (k : ℕ) (a : A) → get_elem? l k ≡ some a → (k < length l) × ((d : A) → slice_index_or l k d ≡ a)
  found [] k a e = absurd (some-ne-none a (sym e))
  found (x ∷ xs) zero a e = (omega arith, λ d. some-injective x a e)
  found (x ∷ xs) (suc k) a e = let r = found xs k a e in let low = r.0 in (omega arith, r.1)

  -- what holds at each place holds of all
  pub all_of : (P : A → Type 0) (l : List A) → ((k : ℕ) (a : A) → get_elem? l k ≡ some a → P a) → All P l
  all_of P l each k d low = let r = in_range l k low in subst P (sym (r.2 d)) (each k r.0 r.1)
