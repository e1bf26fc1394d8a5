-- The order in which adds wait, and lists in that order.
use Rattle.std.proofs.Common.{◌≡◌, ℕ, ◌+◌, ◌<◌, Bool, true, false, ◌==◌, List, [], ◌∷◌, get_or, refl, sym, ◌∙◌, ap, arith, eq-eqb}
use Rattle.std.specs.List.{AllByRecursion, IsDistinct}
use Rattle.std.specs.Ordering.{is_lt, ordering_then, ordering_reverse}
use Rattle.std.specs.Cmp.{IsTotalOrder}
use Rattle.std.specs.FinMap.{nat_cmp-IsAntisymmetric}
use Rattle.std.specs.List.Sorted.{IsPermutation, IsSortedBy, IsStrictlySortedBy}
use Rattle.std.specs.declared.cmp.Ordering.{Ordering}
use Rattle.std.specs.declared.cmp.Ordering.TheVariants.{Less, Equal, Greater}
use Rattle.std.proofs.lemmas.Cmp.{then_total, on_total, nat_cmp_total, nat_list_cmp_total}
use Rattle.std.proofs.lemmas.Map.Keys.{IsDistinct-cons, IsDistinct-from_apart, IsDistinct-IsPermutation, apart_from_distinct, sorted_from_all_adjacent}
use Rattle.crawl_history.specs.Queues.{Add}
use Rattle.emission_laws.proofs.Choosing.{Rising}
use Rattle.frontier_core.specs.Waiting.{queue_order}

pub queue_order_total : IsTotalOrder queue_order
queue_order_total =
    then_total (on_total (λ (x : Add). x.item.class) nat_list_cmp_total)
    (then_total (on_total (λ (x : Add). x.item.rank) nat_cmp_total) (on_total (λ (x : Add). x.ordinal) nat_cmp_total))

-- adds that no order tells apart have one ordinal
equal_ordinals : (x y : Add) → queue_order x y ≡ Equal → x.ordinal ≡ y.ordinal
equal_ordinals x y e = nat_cmp-IsAntisymmetric x.ordinal y.ordinal (last_equal _ _ (last_equal _ _ e))
  where
    last_equal : (r s : Ordering) → ordering_then r s ≡ Equal → s ≡ Equal
    last_equal Less s e = cc
    last_equal Equal s e = e
    last_equal Greater s e = cc

-- whether two have one ordinal
abbrev same_ordinal : Add → Add → Bool
same_ordinal x y = x.ordinal == y.ordinal

swapped : (m n : ℕ) → (m == n) ≡ (n == m)
swapped m n = grind arith

apart_above : (n : ℕ) (adds : List Add) → AllByRecursion (λ y. n < y.ordinal) adds → AllByRecursion (λ y. (n == y.ordinal) ≡ false) adds
apart_above n [] all = tt
apart_above n (x ∷ adds) all = (eqb-below n x.ordinal all.0, apart_above n adds all.1)
  where
    eqb-below : (m n : ℕ) → m < n → (m == n) ≡ false
    eqb-below m n lt = grind arith

once-rising : (adds : List Add) → Rising adds → IsDistinct same_ordinal adds
once-rising [] rising = IsDistinct-from_apart same_ordinal [] (λ i j d lt le. absurd (omega arith))
once-rising (x ∷ adds) rising = IsDistinct-cons same_ordinal x adds (apart_above x.ordinal adds rising.0) (once-rising adds rising.1)

sorted_none : IsStrictlySortedBy queue_order []
unfolding IsStrictlySortedBy
sorted_none = tt

-- a sort of adds whose ordinals rise
pub strictly_sorted : (adds sorted : List Add) → Rising adds → IsPermutation adds sorted → IsSortedBy (λ x y. is_lt (queue_order x y)) sorted → IsStrictlySortedBy queue_order sorted
strictly_sorted adds sorted rising same by = from_first sorted once by
  where
    once : IsDistinct same_ordinal sorted
    once = IsDistinct-IsPermutation same_ordinal (λ x y. swapped x.ordinal y.ordinal) adds sorted same (once-rising adds rising)

    less : (x y : Add) (r : Ordering) → queue_order x y ≡ r → is_lt (queue_order y x) ≡ false → same_ordinal x y ≡ false → queue_order x y ≡ Less
    less x y Less is behind apart = is
    less x y Equal is behind apart = let clash : true ≡ false = sym (eq-eqb x.ordinal y.ordinal (equal_ordinals x y is)) ∙ apart in cc
    less x y Greater is behind apart = let clash : true ≡ false = sym (ap is_lt (queue_order_total.antisymm y x ∙ ap ordering_reverse is)) ∙ behind in cc

    from_first : (xs : List Add) → IsDistinct same_ordinal xs → IsSortedBy (λ x y. is_lt (queue_order x y)) xs → IsStrictlySortedBy queue_order xs
    from_first [] once by = sorted_none
    from_first (x ∷ xs) once by =
        sorted_from_all_adjacent queue_order_total (x ∷ xs) x
        (λ k lt. less (get_or (x ∷ xs) k x) (get_or (x ∷ xs) (k + 1) x) _ refl (by k x (omega arith) lt) (apart_from_distinct same_ordinal (x ∷ xs) k (k + 1) x once (omega arith) lt))
