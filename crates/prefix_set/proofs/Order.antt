-- Texts in byte order, and which of them begin with which.
--     le_begins, begins_between         where a beginning of a text stands in the order
--     AreApart-dedup, covers-dedup      what is left of sorted texts without those that begin with the one kept before
--     covers_none, covers_last          the greatest prefix that is not above a text decides
use Rattle.std.proofs.Common.{Ordering, Less, Equal, Greater, ◌≡◌, ℕ, suc, ◌-◌, ◌<◌, ◌≤◌, ◌⊎◌, inl, inr, Bool, true, false, ◌||◌, nat_eq, List, [], ◌∷◌, length, get_or, take, length-take-le, get_or-take, refl, sym, ap, ◌∙◌, subst, arith}
use Rattle.std.specs.Cmp.Lexicographic.{slice_cmp}
use Rattle.std.specs.List.{starts_with, All, AllPairs, dedup_from, dedup}
use Rattle.std.specs.List.Sorted.{IsSorted, IsPartitionedBy, IsPartitionPoint}
use Rattle.std.specs.Ordering.{nat_cmp, ordering_then, ordering_reverse, is_le, is_lt, is_gt}
use Rattle.std.proofs.lemmas.Bool.{and_parts, and_from, eqb-true, eq-eqb, false_from_ne_true, both_ways, cases_Bool, cases_order, cond_both}
use Rattle.std.proofs.lemmas.Cmp.{ranked, by_ranked, upto, nat_list_cmp_total}
use Rattle.std.proofs.lemmas.List.Elements.{All-nil, All-cons, All-head, All-tail, All-from_get_or}
use Rattle.std.proofs.lemmas.List.Folds.{list_any_at, list_any_none}
use Rattle.std.proofs.lemmas.List.Kept.{AllPairs-cons}
use Rattle.std.proofs.lemmas.List.Sorted.{sorted_far, ranks_by}
use Rattle.prefix_set.specs.Prefixes.{covers, AreApart}

-- p is not above q
abbrev pub IsUpTo : List ℕ → List ℕ → Type 0
IsUpTo p q = is_le (slice_cmp nat_cmp p q) ≡ true

-- the text begins with p
abbrev pub Begins : List ℕ → List ℕ → Type 0
Begins p text = starts_with nat_eq text p ≡ true

-- what the first numbers of two texts say of their order
heads_le : (x y : ℕ) (o : Ordering) → is_le (ordering_then (nat_cmp x y) o) ≡ true → (x < y) ⊎ ((x ≡ y) × (is_le o ≡ true))
heads_le x y o h =
    by_ranked (x < y) (x ≡ y) (y < x) (nat_cmp x y) (ranked x y (nat_cmp x y) refl)
    (λ _ p. inl p)
    (λ e p. inr (p, subst (λ v. is_le (ordering_then v o) ≡ true) e h))
    (λ e _. let k : false ≡ true = subst (λ v. is_le (ordering_then v o) ≡ true) e h in absurd (cc))

heads_equal : (x y : ℕ) (o : Ordering) → x ≡ y → ordering_then (nat_cmp x y) o ≡ o
heads_equal x y o h =
    by_ranked (x < y) (x ≡ y) (y < x) (nat_cmp x y) (ranked x y (nat_cmp x y) refl)
    (λ _ p. absurd (omega arith))
    (λ e _. ap (λ v. ordering_then v o) e)
    (λ _ p. absurd (omega arith))

-- a beginning of a text is not above it
pub le_begins : (p text : List ℕ) → Begins p text → IsUpTo p text
le_begins [] [] h = refl
le_begins [] (y ∷ t) h = refl
le_begins (x ∷ p) [] h = cc
le_begins (x ∷ p) (y ∷ t) h =
    let w = and_parts _ _ h in
    ap is_le (heads_equal x y (slice_cmp nat_cmp p t) (eqb-true x y w.0)) ∙ le_begins p t w.1

-- what stands between a beginning of a text and the text begins with it too
pub begins_between : (p q text : List ℕ) → IsUpTo p q → IsUpTo q text → Begins p text → Begins p q
begins_between [] q t _ _ _ = refl
begins_between (x ∷ p) [] t h _ _ = cc
begins_between (x ∷ p) (y ∷ q) [] _ _ h = cc
begins_between (x ∷ p) (y ∷ q) (z ∷ t) h k b =
    let w = and_parts _ _ b in
    let same : x ≡ z = eqb-true x z w.0 in
    let first : (x < y) ⊎ ((x ≡ y) × IsUpTo p q) = heads_le x y _ h in
    let second : (y < z) ⊎ ((y ≡ z) × IsUpTo q t) = heads_le y z _ k in
    elim first [
      | inl l ↦ elim second [ inl m ↦ absurd (omega arith) | inr m ↦ absurd (omega arith) ]
      | inr l ↦ elim second [ inl m ↦ absurd (omega arith) | inr m ↦ and_from _ _ (eq-eqb x y l.0) (begins_between p q t l.1 m.1 w.1) ]
    ]

-- a beginning of a beginning is one
begins_begins : (p q text : List ℕ) → Begins p q → Begins q text → Begins p text
begins_begins [] q t _ _ = refl
begins_begins (x ∷ p) [] t h _ = cc
begins_begins (x ∷ p) (y ∷ q) [] _ h = cc
begins_begins (x ∷ p) (y ∷ q) (z ∷ t) h k =
    let v = and_parts _ _ h in
    let w = and_parts _ _ k in
    and_from _ _ (eq-eqb x z (eqb-true x y v.0 ∙ eqb-true y z w.0)) (begins_begins p q t v.1 w.1)

le_reversed : (o : Ordering) → is_lt o ≡ false → is_le (ordering_reverse o) ≡ true
le_reversed Less h = cc
le_reversed Equal h = refl
le_reversed Greater h = refl

not_gt : (o : Ordering) → is_le o ≡ true → is_gt o ≡ false
not_gt Less h = refl
not_gt Equal h = refl
not_gt Greater h = cc

not_le : (o : Ordering) → is_gt o ≡ false → is_le o ≡ true
not_le Less h = refl
not_le Equal h = refl
not_le Greater h = cc

IsUpTo-trans : (p q r : List ℕ) → IsUpTo p q → IsUpTo q r → IsUpTo p r
IsUpTo-trans p q r h k = not_le _ (upto nat_list_cmp_total p q r (not_gt _ h) (not_gt _ k))

-- in a sorted list none is above a later one
all_up : (xs : List (List ℕ)) → IsSorted (slice_cmp nat_cmp) xs → AllPairs IsUpTo xs
all_up xs h = λ i j d l m.
    let p = get_or xs i d in
    let q = get_or xs j d in
    ap is_le (nat_list_cmp_total.antisymm p q) ∙ le_reversed _ (sorted_far (λ x y. is_lt (slice_cmp nat_cmp x y)) (ranks_by nat_list_cmp_total (λ x. x)) xs h i j d (omega arith) m)

AllPairs-head : {X : Type 0} (R : X → X → Type 0) (x : X) (xs : List X) → AllPairs R (x ∷ xs) → All (R x) xs
AllPairs-head R x xs h = λ k d l. h 0 (suc k) d (omega arith) (omega arith)

AllPairs-tail : {X : Type 0} (R : X → X → Type 0) (x : X) (xs : List X) → AllPairs R (x ∷ xs) → AllPairs R xs
AllPairs-tail R x xs h = λ i j d l m. h (suc i) (suc j) d (omega arith) (omega arith)

AllPairs-nil : {X : Type 0} (R : X → X → Type 0) → AllPairs R []
AllPairs-nil R = λ i j d l m. absurd (omega arith)

-- first is not above later, nor a beginning of it
abbrev IsApartFrom : List ℕ → List ℕ → Type 0
IsApartFrom first later = IsUpTo first later × (starts_with nat_eq later first ≡ false)

IsApartFrom-between : (p q r : List ℕ) → IsApartFrom p q → IsUpTo p r → IsUpTo q r → IsApartFrom p r
IsApartFrom-between p q r h up k = (up, false_from_ne_true _ (λ b. both_ways _ h.1 (begins_between p q r h.0 k b)))

All-dedup_from : (P : List ℕ → Type 0) (k : List ℕ) (xs : List (List ℕ)) → P k → All P xs → All P (dedup_from (starts_with nat_eq) k xs)
All-dedup_from P k [] p h = All-cons P k [] p (All-nil P)
All-dedup_from P k (x ∷ xs) p h =
    cond_both (starts_with nat_eq x k) _ _ (All P)
    (λ _. All-dedup_from P k xs p (All-tail P x xs h))
    (λ _. All-cons P k _ p (All-dedup_from P x xs (All-head P x xs h) (All-tail P x xs h)))

AreApart-dedup_from : (k : List ℕ) (xs : List (List ℕ)) → All (IsUpTo k) xs → AllPairs IsUpTo xs → AreApart (dedup_from (starts_with nat_eq) k xs)
AreApart-dedup_from k [] up h = AllPairs-cons IsApartFrom k [] (All-nil (IsApartFrom k)) (AllPairs-nil IsApartFrom)
AreApart-dedup_from k (x ∷ xs) up h =
    let above = AllPairs-head IsUpTo x xs h in
    let later = AllPairs-tail IsUpTo x xs h in
    let first : IsUpTo k x = All-head (IsUpTo k) x xs up in
    let rest : All (IsUpTo k) xs = All-tail (IsUpTo k) x xs up in
    cond_both (starts_with nat_eq x k) _ _ AreApart
    (λ _. AreApart-dedup_from k xs rest later)
    (λ e. AllPairs-cons IsApartFrom k _ (All-dedup_from (IsApartFrom k) x xs (first, e) (λ i d l. IsApartFrom-between k x (get_or xs i d) (first, e) (rest i d l) (above i d l))) (AreApart-dedup_from x xs above later))

-- what is kept of sorted texts
pub AreApart-dedup : (xs : List (List ℕ)) → IsSorted (slice_cmp nat_cmp) xs → AreApart (dedup (starts_with nat_eq) xs)
AreApart-dedup [] h = AllPairs-nil IsApartFrom
AreApart-dedup (x ∷ xs) h =
    let up = all_up (x ∷ xs) h in
    AreApart-dedup_from x xs (AllPairs-head IsUpTo x xs up) (AllPairs-tail IsUpTo x xs up)

absorbed : (a b c : Bool) → (b ≡ true → a ≡ true) → (a || c) ≡ (a || (b || c))
absorbed true b c h = refl
absorbed false true c h = let k : false ≡ true = h refl in cc
absorbed false false c h = refl

covers-dedup_from : (text k : List ℕ) (xs : List (List ℕ)) → covers (dedup_from (starts_with nat_eq) k xs) text ≡ covers (k ∷ xs) text
covers-dedup_from text k [] = refl
covers-dedup_from text k (x ∷ xs) =
    let begun : List ℕ → Bool = starts_with nat_eq text in
    cond_both (starts_with nat_eq x k) _ _ (λ l. covers l text ≡ (begun k || (begun x || covers xs text)))
    (λ e. covers-dedup_from text k xs ∙ absorbed (begun k) (begun x) (covers xs text) (begins_begins k x text e))
    (λ _. ap (λ b. begun k || b) (covers-dedup_from text x xs))

-- they cover the same
pub covers-dedup : (xs : List (List ℕ)) (text : List ℕ) → covers (dedup (starts_with nat_eq) xs) text ≡ covers xs text
covers-dedup [] text = refl
covers-dedup (x ∷ xs) text = covers-dedup_from text x xs

-- whether p is not above the text
abbrev pub is_up_to : List ℕ → List ℕ → Bool
is_up_to text p = is_le (slice_cmp nat_cmp p text)

-- n of them are not above the text
abbrev pub IsPoint : List (List ℕ) → List ℕ → ℕ → Type 0
IsPoint xs text n = IsPartitionPoint (λ p. is_up_to text p ≡ true) (λ p. is_up_to text p ≡ false) xs n

pub IsPartitionedBy-up_to : (xs : List (List ℕ)) (text : List ℕ) → AreApart xs → IsPartitionedBy (is_up_to text) xs
IsPartitionedBy-up_to xs text h = λ i j d l m up.
    elim (cases_order i j) [
      | inl e ↦ subst (λ k. is_up_to text (get_or xs k d) ≡ true) (sym e) up
      | inr r ↦ elim r [ inl k ↦ IsUpTo-trans (get_or xs i d) (get_or xs j d) text (h i j d k m).0 up | inr k ↦ absurd (omega arith) ]
    ]

-- one that is above the text is no beginning of it
above : (xs : List (List ℕ)) (text : List ℕ) (n : ℕ) → IsPoint xs text n → (k : ℕ) (d : List ℕ) → n ≤ k → k < length xs → starts_with nat_eq text (get_or xs k d) ≡ false
above xs text n h k d l m = false_from_ne_true _ (λ b. both_ways _ (h.1 k d l m) (le_begins _ text b))

-- where the first n are none, none covers the text
pub covers_none : (xs : List (List ℕ)) (text : List ℕ) (n : ℕ) → n ≤ length xs → length (take n xs) ≤ 0 → IsPoint xs text n → covers xs text ≡ false
covers_none xs text n le e h =
    let size : length (take n xs) ≡ n = length-take-le n xs le in
    list_any_none (starts_with nat_eq text) xs (λ k d l. above xs text n h k d (omega arith) l)

-- where the last of them is no beginning of the text, none is
none_before : (xs : List (List ℕ)) (text : List ℕ) (n : ℕ) (d : List ℕ) → AreApart xs → 0 < n → n ≤ length xs → IsPoint xs text n → starts_with nat_eq text (get_or xs (n - 1) d) ≡ false → (k : ℕ) → k < length xs → starts_with nat_eq text (get_or xs k d) ≡ false
none_before xs text n d apart pos le h e k l =
    elim (cases_order k (n - 1)) [
      | inl same ↦ ap (λ i. starts_with nat_eq text (get_or xs i d)) same ∙ e
      | inr r ↦ elim r [
        | inl m ↦
            let before = apart k (n - 1) d m (omega arith) in
            false_from_ne_true _ (λ b. both_ways _ before.1 (begins_between (get_or xs k d) (get_or xs (n - 1) d) text before.0 (h.0 (n - 1) d (omega arith) (omega arith)) b))
        | inr m ↦ above xs text n h k d (omega arith) l
      ]
    ]

pub covers_last : (xs : List (List ℕ)) (text : List ℕ) (n : ℕ) (d : List ℕ) → AreApart xs → 0 < n → n ≤ length xs → IsPoint xs text n → starts_with nat_eq text (get_or xs (n - 1) d) ≡ covers xs text
covers_last xs text n d apart pos le h =
    elim (cases_Bool (starts_with nat_eq text (get_or xs (n - 1) d))) [
      | inl e ↦ e ∙ sym (list_any_at (starts_with nat_eq text) xs (n - 1) d (omega arith) e)
      | inr e ↦ e ∙ sym (list_any_none (starts_with nat_eq text) xs (All-from_get_or (λ p. starts_with nat_eq text p ≡ false) xs d (none_before xs text n d apart pos le h e)))
    ]

-- the last of the first n, as a call of `last` gives it
pub last_of_take : (xs : List (List ℕ)) (n : ℕ) (p : List ℕ) → n ≤ length xs → 0 < length (take n xs) → p ≡ get_or (take n xs) (length (take n xs) - 1) p → (0 < n) × (p ≡ get_or xs (n - 1) p)
last_of_take xs n p le pos e =
    let size : length (take n xs) ≡ n = length-take-le n xs le in
    let some : 0 < n = omega arith in
    (some, e ∙ ap (λ k. get_or (take n xs) (k - 1) p) size ∙ get_or-take n xs (n - 1) p (omega arith))
