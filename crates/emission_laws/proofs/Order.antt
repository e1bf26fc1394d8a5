-- The order in which adds go, and the order of classes with their wakes.
use Rattle.std.proofs.Common.{◌≡◌, ℕ, ◌<◌, Bool, true, false, ◌&&◌, ◌||◌, cond, List, refl, sym, ◌∙◌, ap, ap₂, arith, nat_lt, ◌==◌, lt-ltb, ltb-false}
use Rattle.std.specs.declared.cmp.Ordering.{Ordering}
use Rattle.std.specs.declared.cmp.Ordering.TheVariants.{Less, Equal, Greater}
use Rattle.std.specs.Ordering.{nat_cmp, is_lt, is_eq, ordering_then, ordering_reverse, MatchOrdering}
use Rattle.std.specs.Cmp.{IsTotalOrder}
use Rattle.std.specs.Cmp.Lexicographic.{slice_cmp}
use Rattle.std.proofs.lemmas.Cmp.{then_total, on_total, nat_cmp_total, nat_list_cmp_total, tied_itself, ranked}
use Rattle.std.proofs.lemmas.Map.Text.{is_eq-slice_cmp}
use Rattle.std.proofs.lemmas.Slice.Eq.{bytes_eq-Decides}
use Rattle.crawl_history.specs.Queues.{Add}
use Rattle.crawl_history.specs.Emission.{Snoozed, is_less, goes_before}
use Rattle.emission_laws.specs.Choice.{going_order, goes_first}

pub order : (wakes : List ℕ → ℕ) → IsTotalOrder (going_order wakes)
order wakes =
    then_total (on_total (λ (x : Add). wakes x.item.class) nat_cmp_total)
    (then_total (on_total (λ (x : Add). x.item.class) nat_list_cmp_total)
    (then_total (on_total (λ (x : Add). x.item.rank) nat_cmp_total) (on_total (λ (x : Add). x.ordinal) nat_cmp_total)))

-- the class of the add with its wake
abbrev pub snooze : (List ℕ → ℕ) → Add → Snoozed
snooze wakes x = record { wake = wakes x.item.class; class = x.item.class }

-- what does not go first has a class that does not go before
pub not_before : (wakes : List ℕ → ℕ) (y x : Add) → goes_first wakes y x ≡ false → goes_before (snooze wakes y) (snooze wakes x) ≡ false
not_before wakes y x h =
    by_tests (nat_lt (wakes y.item.class) (wakes x.item.class)) (wakes y.item.class == wakes x.item.class)
    (slice_cmp nat_cmp y.item.class x.item.class) _ h
  where
    by_tests : (p q : Bool) (o rest : Ordering) → is_lt (ordering_then (cond p Less (cond q Equal Greater)) (ordering_then o rest)) ≡ false → (p || (q && is_less o)) ≡ false
    by_tests true q o rest h = cc
    by_tests false true Less rest h = cc
    by_tests false true Equal rest h = refl
    by_tests false true Greater rest h = refl
    by_tests false false o rest h = refl

-- within a class rank and ordinal decide
abbrev pub queue_order : Add → Add → Ordering
queue_order y x = ordering_then (nat_cmp y.item.rank x.item.rank) (nat_cmp y.ordinal x.ordinal)

pub within_class : (wakes : List ℕ → ℕ) (y x : Add) → y.item.class ≡ x.item.class → goes_first wakes y x ≡ false → is_lt (queue_order y x) ≡ false
within_class wakes y x same h =
    past_both _ _ (queue_order y x)
    (ap (λ k. nat_cmp (wakes k) (wakes x.item.class)) same ∙ tied_itself nat_cmp_total (wakes x.item.class))
    (ap (λ k. slice_cmp nat_cmp k x.item.class) same ∙ tied_itself nat_list_cmp_total x.item.class) h
  where
    past_both : (o p r : Ordering) → o ≡ Equal → p ≡ Equal → is_lt (ordering_then o (ordering_then p r)) ≡ false → is_lt r ≡ false
    past_both o p r e g h = ap₂ (λ o p. is_lt (ordering_then o (ordering_then p r))) (sym e) (sym g) ∙ h

-- a later add has no lesser rank
pub rank_not_less : (y x : Add) → is_lt (queue_order y x) ≡ false → nat_lt y.item.rank x.item.rank ≡ false
rank_not_less y x h = by_tests (nat_lt y.item.rank x.item.rank) (y.item.rank == x.item.rank) _ h
  where
    by_tests : (p q : Bool) (rest : Ordering) → is_lt (ordering_then (cond p Less (cond q Equal Greater)) rest) ≡ false → p ≡ false
    by_tests true q rest h = cc
    by_tests false q rest h = refl

-- an earlier add has a greater rank
pub rank_greater : (y x : Add) → y.ordinal < x.ordinal → is_lt (queue_order y x) ≡ false → nat_lt x.item.rank y.item.rank ≡ true
rank_greater y x earlier h =
    by_order (nat_cmp y.item.rank x.item.rank) (ranked y.item.rank x.item.rank _ refl)
    (ap (λ b. is_lt (ordering_then (nat_cmp y.item.rank x.item.rank) (cond b Less (cond (y.ordinal == x.ordinal) Equal Greater)))) (sym (lt-ltb y.ordinal x.ordinal earlier)) ∙ h)
  where
    by_order :
        (o : Ordering) → MatchOrdering o (y.item.rank < x.item.rank) (y.item.rank ≡ x.item.rank) (x.item.rank < y.item.rank)
        → is_lt (ordering_then o Less) ≡ false → nat_lt x.item.rank y.item.rank ≡ true
    by_order Less m h = cc
    by_order Equal m h = cc
    by_order Greater m h = lt-ltb x.item.rank y.item.rank m

-- two classes of which none goes before the other are one
pub same_class : (x y : Snoozed) → goes_before x y ≡ false → goes_before y x ≡ false → y ≡ x
same_class x y h g =
    let wakes : y.wake ≡ x.wake = same_wake x.wake y.wake _ _ h g in
    ap₂ (λ (w : ℕ) (k : List ℕ). record { wake = w; class = k }) wakes (same_text x.class y.class (texts x.wake y.wake _ (sym wakes) h) (texts y.wake x.wake _ wakes g))
  where
    same_wake : (m n : ℕ) (p q : Bool) → (nat_lt m n || p) ≡ false → (nat_lt n m || q) ≡ false → n ≡ m
    same_wake m n p q h g =
        let one = ltb-false m n (left (nat_lt m n) p h) in
        let other = ltb-false n m (left (nat_lt n m) q g) in
        omega (arith, one, other)
      where
        left : (a b : Bool) → (a || b) ≡ false → a ≡ false
        left true b h = cc
        left false b h = refl

    texts : (m n : ℕ) (l : Bool) → m ≡ n → (nat_lt m n || (m == n && l)) ≡ false → l ≡ false
    texts m n l same h = by_tests (nat_lt m n) (m == n) (eq-test m n same) h
      where
        eq-test : (m n : ℕ) → m ≡ n → (m == n) ≡ true
        eq-test m n same = grind arith

        by_tests : (p q : Bool) → q ≡ true → (p || (q && l)) ≡ false → l ≡ false
        by_tests true q e h = cc
        by_tests false true e h = h
        by_tests false false e h = cc

    same_text : (j k : List ℕ) → is_less (slice_cmp nat_cmp j k) ≡ false → is_less (slice_cmp nat_cmp k j) ≡ false → k ≡ j
    same_text j k h g = (bytes_eq-Decides k j).0 (sym (is_eq-slice_cmp k j) ∙ by_orders (slice_cmp nat_cmp j k) (slice_cmp nat_cmp k j) (nat_list_cmp_total.antisymm j k) h g)
      where
        by_orders : (o p : Ordering) → o ≡ ordering_reverse p → is_less o ≡ false → is_less p ≡ false → is_eq p ≡ true
        by_orders o Less turned h g = cc
        by_orders o Equal turned h g = refl
        by_orders o Greater turned h g = let e = ap is_less turned in cc
