-- The order of entries, and where one belongs.
use Rattle.std.proofs.Common.{◌≡◌, ◌≢◌, inl, inr, ℕ, ◌+◌, ◌<◌, ◌≤◌, true, false, List, [], ◌∷◌, ◌++◌, length, get_or, take, drop, All, Ordering, Less, Equal, Greater, sym, ap, subst, ◌∙◌, refl, arith}
use Rattle.std.specs.Ordering.{nat_cmp, ordering_then, ordering_reverse, is_lt}
use Rattle.std.specs.Cmp.{IsTotalOrder}
use Rattle.std.specs.FinMap.{nat_cmp-IsAntisymmetric}
use Rattle.std.specs.List.{AllByRecursion, insert}
use Rattle.std.specs.List.Sorted.{IsStrictlySortedBy, IsPartitionedBy, IsPartitionPoint}
use Rattle.std.proofs.Math.Nat.{eq-or-lt_of_le}
use Rattle.std.proofs.lemmas.Cmp.{then_total, on_total, nat_cmp_total}
use Rattle.std.proofs.lemmas.List.{get_or-take, get_or-drop, length-drop, length-take-le, take-append-drop}
use Rattle.std.proofs.lemmas.List.Elements.{recursion_from_All}
use Rattle.std.proofs.lemmas.List.Sorted.{IsPermutation-insert}
use Rattle.std.proofs.lemmas.Map.Keys.{Less-from_sorted}
use Rattle.host_queue.specs.Queue.{Entry, place, compare, IsInOrder, IsPut}

-- which of two entries comes first
abbrev pub order : Entry → Entry → Ordering
order a b = compare (place a) (place b)

pub order_total : IsTotalOrder order
order_total = then_total (on_total (λ (e : Entry). e.0.rank) nat_cmp_total) (on_total (λ (e : Entry). e.1) nat_cmp_total)

-- places that no order tells apart are one
then_equal : (r s : Ordering) → ordering_then r s ≡ Equal → (r ≡ Equal) × (s ≡ Equal)
then_equal Less s e = absurd (cc e)
then_equal Equal s e = (refl, e)
then_equal Greater s e = absurd (cc e)

pub same_place : (a b : ℕ × ℕ) → compare a b ≡ Equal → a ≡ b
same_place a b e =
    let both = then_equal (nat_cmp a.0 b.0) (nat_cmp a.1 b.1) e in
    let rank = nat_cmp-IsAntisymmetric a.0 b.0 both.0 in
    let ordinal = nat_cmp-IsAntisymmetric a.1 b.1 both.1 in
    λ i. (rank i, ordinal i)

less_from_test : (r : Ordering) → is_lt r ≡ true → r ≡ Less
less_from_test Less e = refl
less_from_test Equal e = absurd (cc e)
less_from_test Greater e = absurd (cc e)

less_from_reverse : (r : Ordering) → is_lt r ≡ false → (r ≡ Equal → ⊥) → ordering_reverse r ≡ Less
less_from_reverse Less e apart = absurd (cc e)
less_from_reverse Equal e apart = absurd (apart refl)
less_from_reverse Greater e apart = refl

-- an entry that does not come before e and stands elsewhere comes behind it
behind : (x e : Entry) → is_lt (order x e) ≡ false → place x ≢ place e → order e x ≡ Less
behind x e test apart =
    order_total.antisymm e x ∙ less_from_reverse (order x e) test (λ same. apart (same_place (place x) (place e) same))

-- in order, those before e stand first
pub partitioned : (xs : List Entry) (e : Entry) → IsInOrder xs → IsPartitionedBy (λ x. is_lt (order x e)) xs
partitioned xs e sorted i j d le lt test =
    elim (eq-or-lt_of_le le) [
      | inl same ↦ subst (λ (k : ℕ). is_lt (order (get_or xs k d) e) ≡ true) (sym same) test
      | inr less ↦
          ap is_lt (order_total.trans (get_or xs i d) (get_or xs j d) e (Less-from_sorted order xs i j d sorted less lt) (less_from_test (order (get_or xs j d) e) test))
    ]

-- an entry among sorted ones, behind those before it and before the others
with_all : (P : Entry → Type 0) (front back : List Entry) (e : Entry) → AllByRecursion P (front ++ back) → P e → AllByRecursion P (front ++ e ∷ back)
with_all P [] back e all this = (this, all)
with_all P (x ∷ xs) back e all this = (all.0, with_all P xs back e all.1 this)

sorted_with : (front back : List Entry) (e : Entry) → IsInOrder (front ++ back) → AllByRecursion (λ x. order x e ≡ Less) front → AllByRecursion (λ x. order e x ≡ Less) back → IsInOrder (front ++ e ∷ back)
unfolding IsStrictlySortedBy
sorted_with [] back e sorted before after = (after, sorted)
sorted_with (x ∷ xs) back e sorted before after =
    (with_all (λ y. order x y ≡ Less) xs back e sorted.0 before.0, sorted_with xs back e sorted.1 before.1 after)

-- an entry put where those before it end
pub put_at : (xs : List Entry) (e : Entry) (i : ℕ) → IsInOrder xs → All (λ x. place x ≢ place e) xs → i ≤ length xs → IsPartitionPoint (λ x. is_lt (order x e) ≡ true) (λ x. is_lt (order x e) ≡ false) xs i → IsPut e xs (insert xs i e)
put_at xs e i sorted apart le point =
    let before : All (λ x. order x e ≡ Less) (take i xs) =
    λ k d lt.
    let n = length-take-le i xs le in
    let within : k < i = omega arith in
    rw (get_or-take i xs k d within) (less_from_test (order (get_or xs k d) e) (point.0 k d (omega arith) within)) in
    let after : All (λ x. order e x ≡ Less) (drop i xs) =
    λ k d lt.
    let n = length-drop i xs in
    rw (get_or-drop i xs k d) (behind (get_or xs (i + k) d) e (point.1 (i + k) d (omega arith) (omega arith)) (apart (i + k) d (omega arith))) in
    record {
      ordered = sorted_with (take i xs) (drop i xs) e (subst IsInOrder (sym (take-append-drop i xs)) sorted) (recursion_from_All _ (take i xs) before) (recursion_from_All _ (drop i xs) after);
      same = IsPermutation-insert xs i e;
    }
