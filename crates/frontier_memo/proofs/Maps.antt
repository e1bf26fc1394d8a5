-- A map under texts, after one write.
use Rattle.std.proofs.Common.{◌≡◌, ℕ, true, false, Bool, cond, List, refl, sym, ◌∙◌, ap, Option, Some, None}
use Rattle.std.specs.Prelude.{bytes_eq, option_map, unwrap_or, if◌then◌else◌}
use Rattle.std.specs.Ordering.{nat_cmp}
use Rattle.std.specs.Cmp.Lexicographic.{slice_cmp}
use Rattle.std.specs.BTreeMap.{BTreeMap, UpdatesBy}
use Rattle.std.proofs.lemmas.Map.Text.{is_eq-slice_cmp}
use Rattle.std.proofs.lemmas.Slice.Eq.{bytes_eq-Decides}
use Rattle.frontier_memo.specs.Sums.{class_at}

module _ {X : Type 0} (m n : BTreeMap (List ℕ) X) (k : List ℕ) where
  pub written : (key : List ℕ) (w : Option X) → k ≡ key → UpdatesBy (slice_cmp nat_cmp) (slice_cmp nat_cmp k) m n w → (q : List ℕ) → class_at n q ≡ (if bytes_eq key q then w else class_at m q)
  written key w e u q = u.0 q ∙ ap (λ b. cond b w (class_at m q)) (is_eq-slice_cmp k q ∙ ap (λ x. bytes_eq x q) e)

  by_key : (w o : Option X) (q : List ℕ) → ((k ≡ q) → w ≡ o) → (if bytes_eq k q then w else class_at m q) ≡ (if bytes_eq k q then o else class_at m q)
  by_key w o q same = by_test (bytes_eq k q) refl
    where
      by_test : (b : Bool) → bytes_eq k q ≡ b → (if b then w else class_at m q) ≡ (if b then o else class_at m q)
      by_test true is = same ((bytes_eq-Decides k q).0 is)
      by_test false is = refl

  -- a write over what is kept
  pub overwritten : (v w : X) → class_at m k ≡ Some v → UpdatesBy (slice_cmp nat_cmp) (slice_cmp nat_cmp k) m n (Some w) → (q : List ℕ) → class_at n q ≡ (if bytes_eq k q then option_map (λ _. w) (class_at m q) else class_at m q)
  overwritten v w is u q =
      written k (Some w) refl u q
      ∙ by_key (Some w) (option_map (λ _. w) (class_at m q)) q (λ e. sym (ap (option_map (λ _. w)) (ap (class_at m) (sym e) ∙ is)))

  -- what stands for nothing is written where nothing is kept
  pub roomed : (v : X) → class_at m k ≡ None → UpdatesBy (slice_cmp nat_cmp) (slice_cmp nat_cmp k) m n (Some v) → (q : List ℕ) → unwrap_or (class_at n q) v ≡ unwrap_or (class_at m q) v
  roomed v is u q = ap (λ o. unwrap_or o v) (written k (Some v) refl u q) ∙ by_test (bytes_eq k q) refl
    where
      by_test : (b : Bool) → bytes_eq k q ≡ b → unwrap_or (if b then Some v else class_at m q) v ≡ unwrap_or (class_at m q) v
      by_test true e = sym (ap (λ o. unwrap_or o v) (ap (class_at m) (sym ((bytes_eq-Decides k q).0 e)) ∙ is))
      by_test false e = refl
