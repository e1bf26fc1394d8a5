-- Counts in filtered lists.
use Rattle.std.proofs.Common.{◌≡◌, ℕ, ◌+◌, Bool, true, false, ◌&&◌, cond, List, [], ◌∷◌, ◌++◌, length, refl, sym, ◌∙◌, ap, arith, length-append, zero-add, add-zero, not, ◌||◌, ◌*◌, nat_le}
use Rattle.std.specs.Prelude.{filter, flat_map, bytes_eq, if◌then◌else◌}
use Rattle.std.specs.List.{list_any, AllByRecursion}
use Rattle.std.proofs.lemmas.Slice.Eq.{bytes_eq-Decides}
use Rattle.std.proofs.lemmas.List.Elements.{filter-append}
use Rattle.crawl_kinds.specs.declared.item.Item.{Item}
use Rattle.crawl_history.specs.Queues.{put_by_rank, in_rank_order, in_class}
use Rattle.crawl_history.specs.Scans.{distinct_from}
use Rattle.history_steps.specs.ScansStep.{one_if}
use Rattle.history_laws.proofs.Lists.{clash, and_false}

-- how many pass
abbrev pub number : {X : Type 0} → (X → Bool) → List X → ℕ
number p xs = length (filter p xs)

pub number-cons : {X : Type 0} (p : X → Bool) (x : X) (xs : List X) → number p (x ∷ xs) ≡ one_if (p x) + number p xs
number-cons {X} p x xs =
    elim (p x) as (λ b. length (cond b (x ∷ filter p xs) (filter p xs)) ≡ one_if b + number p xs) [ true ↦ omega arith | false ↦ omega arith ]

pub number-append : {X : Type 0} (p : X → Bool) (xs ys : List X) → number p (xs ++ ys) ≡ number p xs + number p ys
number-append p xs ys = rw filter-append (length-append _ _)

pub number-none_any : {X : Type 0} (p : X → Bool) (xs : List X) → list_any p xs ≡ false → number p xs ≡ 0
number-none_any p [] none = refl
number-none_any {X} p (x ∷ xs) none = by_test (p x) none (number-none_any p xs)
  where
    by_test : (b : Bool) → (b || list_any p xs) ≡ false → (list_any p xs ≡ false → number p xs ≡ 0) → length (cond b (x ∷ filter p xs) (filter p xs)) ≡ 0
    by_test true none rest = cc none
    by_test false none rest = rest none

-- putting an item in its place adds it, whatever its rank
pub number-put_by_rank : (p : Item → Bool) (x : Item) (ys : List Item) → number p (put_by_rank x ys) ≡ one_if (p x) + number p ys
number-put_by_rank p x [] = number-cons p x []
number-put_by_rank p x (y ∷ ys) =
    elim (nat_le x.rank y.rank) as (λ b. number p (if b then x ∷ y ∷ ys else y ∷ put_by_rank x ys) ≡ one_if (p x) + number p (y ∷ ys)) [
      | true ↦ number-cons p x (y ∷ ys)
      | false ↦ omega (arith, number-cons p y (put_by_rank x ys), number-put_by_rank p x ys, number-cons p y ys)
    ]

pub number-in_rank_order : (p : Item → Bool) (xs : List Item) → number p (in_rank_order xs) ≡ number p xs
number-in_rank_order p [] = refl
number-in_rank_order p (x ∷ xs) = omega (arith, number-put_by_rank p x (in_rank_order xs), number-in_rank_order p xs, number-cons p x xs)

-- what passes both is no more than what passes the first
pub number-and : {X : Type 0} (p q : X → Bool) (xs : List X) → number p (filter q xs) ≡ number (λ x. q x && p x) xs
number-and p q [] = refl
number-and p q (x ∷ xs) =
    elim (q x) as (λ b. number p (cond b (x ∷ filter q xs) (filter q xs)) ≡ length (cond (b && p x) (x ∷ filter (λ y. q y && p y) xs) (filter (λ y. q y && p y) xs))) [
      | true ↦ omega (arith, number-cons p x xs, number-head (p x) x (filter (λ y. q y && p y) xs), number-and-true p q x xs (number-and p q xs))
      | false ↦ number-and p q xs
    ]
  where
    number-head : {X : Type 0} (b : Bool) (x : X) (ys : List X) → length (cond b (x ∷ ys) ys) ≡ one_if b + length ys
    number-head true x ys = omega arith
    number-head false x ys = omega arith

    number-and-true : {X : Type 0} (p q : X → Bool) (x : X) (xs : List X) → number p (filter q xs) ≡ number (λ x. q x && p x) xs → number p (x ∷ filter q xs) ≡ one_if (p x) + number (λ x. q x && p x) xs
    number-and-true p q x xs e = number-cons p x (filter q xs) ∙ ap (λ n. one_if (p x) + n) e

number-if : {X : Type 0} (p : X → Bool) (s : Bool) (xs : List X) (x : X) (ys : List X) → number p (if s then xs else x ∷ ys) ≡ (if s then number p xs else one_if (p x) + number p ys)
number-if p true xs x ys = refl
number-if p false xs x ys = number-cons p x ys

-- b: x is k; s: x was seen; a: k was seen; m: k comes later
distinct_step : (b s a m : Bool) (seen more : ℕ) → (b ≡ true → s ≡ a) → seen ≡ one_if (m && not a) → more ≡ one_if (m && not (b || a)) → (if s then seen else one_if b + more) ≡ one_if ((b || m) && not a)
distinct_step true true true m seen more h e f = e ∙ ap one_if (and_false m)
distinct_step true true false m seen more h e f = absurd (clash (h refl))
distinct_step true false true m seen more h e f = absurd (clash (sym (h refl)))
distinct_step true false false m seen more h e f = ap (λ n. 1 + n) (f ∙ ap one_if (and_false m)) ∙ add-zero 1
distinct_step false true a m seen more h e f = e
distinct_step false false a m seen more h e f = zero-add more ∙ f

-- an element like k stands once among the first of each where there is one, unless it was seen
pub number-distinct_from : (k : List ℕ) (seen xs : List (List ℕ)) → number (bytes_eq k) (distinct_from bytes_eq seen xs) ≡ one_if (list_any (bytes_eq k) xs && not (list_any (bytes_eq k) seen))
number-distinct_from k seen [] = refl
number-distinct_from k seen (x ∷ xs) =
    number-if (bytes_eq k) (list_any (bytes_eq x) seen) (distinct_from bytes_eq seen xs) x (distinct_from bytes_eq (x ∷ seen) xs)
    ∙ distinct_step (bytes_eq k x) (list_any (bytes_eq x) seen) (list_any (bytes_eq k) seen) (list_any (bytes_eq k) xs) _ _
    (λ e. ap (λ y. list_any (bytes_eq y) seen) (sym ((bytes_eq-Decides k x).0 e)))
    (number-distinct_from k seen xs)
    (number-distinct_from k (x ∷ seen) xs)

-- how many of the classes are the item's
abbrev pub times_in : List (List ℕ) → Item → ℕ
times_in classes item = number (bytes_eq item.class) classes

-- all in the queues of these classes
abbrev pub in_queues : List (List ℕ) → List Item → List Item
in_queues classes xs = flat_map (λ class. in_rank_order (filter (in_class class) xs)) classes

number-cond : {X : Type 0} (p : X → Bool) (b : Bool) (x : X) (xs : List X) → number p (cond b (x ∷ xs) xs) ≡ one_if (b && p x) + number p xs
number-cond p true x xs = number-cons p x xs
number-cond p false x xs = omega arith

queue_step : (q b : Bool) (t f r more first : ℕ) → first ≡ one_if (b && q) + f → more ≡ r + one_if q * t → first + more ≡ (f + r) + one_if q * (one_if b + t)
queue_step true true t f r more first e g = omega arith
queue_step true false t f r more first e g = omega arith
queue_step false true t f r more first e g = omega arith
queue_step false false t f r more first e g = omega arith

-- one more item stands in the queues once for each time that its class is among the classes
pub number-in_queues-cons : (p : Item → Bool) (classes : List (List ℕ)) (x : Item) (xs : List Item) → number p (in_queues classes (x ∷ xs)) ≡ number p (in_queues classes xs) + one_if (p x) * times_in classes x
number-in_queues-cons p [] x xs = omega arith
number-in_queues-cons p (class ∷ classes) x xs =
    number-append p (in_rank_order (filter (in_class class) (x ∷ xs))) (in_queues classes (x ∷ xs))
    ∙ queue_step (p x) (in_class class x) (times_in classes x) (number p (filter (in_class class) xs)) (number p (in_queues classes xs)) _ _
    (number-in_rank_order p (filter (in_class class) (x ∷ xs)) ∙ number-cond p (in_class class x) x (filter (in_class class) xs))
    (number-in_queues-cons p classes x xs)
    ∙ ap (λ n. n + one_if (p x) * (one_if (in_class class x) + times_in classes x))
    (ap (λ n. n + number p (in_queues classes xs)) (sym (number-in_rank_order p (filter (in_class class) xs)))
    ∙ sym (number-append p (in_rank_order (filter (in_class class) xs)) (in_queues classes xs)))
    ∙ ap (λ n. number p (in_queues (class ∷ classes) xs) + one_if (p x) * n) (sym (number-cons (bytes_eq x.class) class classes))

-- an item whose class is there once stands in the queues once
pub number-in_queues : (p : Item → Bool) (classes : List (List ℕ)) (xs : List Item) → AllByRecursion (λ x. times_in classes x ≡ 1) xs → number p (in_queues classes xs) ≡ number p xs
number-in_queues p classes [] once = none_queued classes
  where
    none_queued : (classes : List (List ℕ)) → number p (in_queues classes []) ≡ 0
    none_queued [] = refl
    none_queued (class ∷ classes) = none_queued classes
number-in_queues p classes (x ∷ xs) once =
    number-in_queues-cons p classes x xs
    ∙ once_more (one_if (p x)) _ _ _ once.0 (number-in_queues p classes xs once.1)
    ∙ sym (number-cons p x xs)
  where
    once_more : (q t n m : ℕ) → t ≡ 1 → n ≡ m → n + q * t ≡ q + m
    once_more q t n m e f = rw e (omega arith)
