-- Lists under a map, and what holds of each of their elements.
use Rattle.std.proofs.Common.{◌≡◌, Bool, true, false, ◌||◌, cond, List, [], ◌∷◌, ◌++◌, map, refl, sym, ◌∙◌, ap, Some, subst}
use Rattle.std.specs.Prelude.{filter, find, option_map, Result, Ok, Err, IfOk}
use Rattle.std.specs.List.{list_any, AllByRecursion}

module _ {X Y : Type 0} (f : X → Y) (p : Y → Bool) where
  pub map-filter : (xs : List X) → map f (filter (λ x. p (f x)) xs) ≡ filter p (map f xs)
  map-filter [] = refl
  map-filter (x ∷ xs) = by_test (p (f x)) ∙ ap (λ ys. cond (p (f x)) (f x ∷ ys) ys) (map-filter xs)
    where
      by_test : (b : Bool) → map f (cond b (x ∷ filter (λ x. p (f x)) xs) (filter (λ x. p (f x)) xs)) ≡ cond b (f x ∷ map f (filter (λ x. p (f x)) xs)) (map f (filter (λ x. p (f x)) xs))
      by_test true = refl
      by_test false = refl

  pub find-map : (xs : List X) → find p (map f xs) ≡ option_map f (find (λ x. p (f x)) xs)
  find-map [] = refl
  find-map (x ∷ xs) = ap (λ o. cond (p (f x)) (Some (f x)) o) (find-map xs) ∙ by_test (p (f x))
    where
      by_test : (b : Bool) → cond b (Some (f x)) (option_map f (find (λ x. p (f x)) xs)) ≡ option_map f (cond b (Some x) (find (λ x. p (f x)) xs))
      by_test true = refl
      by_test false = refl

  pub any-map : (xs : List X) → list_any p (map f xs) ≡ list_any (λ x. p (f x)) xs
  any-map [] = refl
  any-map (x ∷ xs) = ap (λ b. p (f x) || b) (any-map xs)

module _ {X : Type 0} where
  pub all-append : (P : X → Type 0) (xs ys : List X) → AllByRecursion P xs → AllByRecursion P ys → AllByRecursion P (xs ++ ys)
  all-append P [] ys a b = b
  all-append P (x ∷ xs) ys a b = (a.0, all-append P xs ys a.1 b)

  pub all-filter : (P : X → Type 0) (p : X → Bool) (xs : List X) → AllByRecursion P xs → AllByRecursion P (filter p xs)
  all-filter P p [] a = tt
  all-filter P p (x ∷ xs) a = by_test (p x) (all-filter P p xs a.1)
    where
      by_test : (b : Bool) → AllByRecursion P (filter p xs) → AllByRecursion P (cond b (x ∷ filter p xs) (filter p xs))
      by_test true rest = (a.0, rest)
      by_test false rest = rest

  pub all-weaker : (P Q : X → Type 0) → ((x : X) → P x → Q x) → (xs : List X) → AllByRecursion P xs → AllByRecursion Q xs
  all-weaker P Q w [] a = tt
  all-weaker P Q w (x ∷ xs) a = (w x a.0, all-weaker P Q w xs a.1)

  -- what is found is an element, and passes
  pub found : (P : X → Type 0) (p : X → Bool) (xs : List X) (x : X) → AllByRecursion P xs → find p xs ≡ Some x → P x × (p x ≡ true)
  found P p [] x a e = cc
  found P p (y ∷ ys) x a e = by_test (p y) refl e (found P p ys x a.1)
    where
      by_test : (b : Bool) → p y ≡ b → cond b (Some y) (find p ys) ≡ Some x → (find p ys ≡ Some x → P x × (p x ≡ true)) → P x × (p x ≡ true)
      by_test true is e later = let same : y ≡ x = cc in (subst P same a.0, ap p (sym same) ∙ is)
      by_test false is e later = later e

  pub filter-all : (p : X → Bool) → ((x : X) → p x ≡ true) → (xs : List X) → filter p xs ≡ xs
  filter-all p h [] = refl
  filter-all p h (x ∷ xs) = ap (λ b. cond b (x ∷ filter p xs) (filter p xs)) (h x) ∙ ap (λ ys. x ∷ ys) (filter-all p h xs)

  pub filter-same : (p q : X → Bool) → ((x : X) → p x ≡ q x) → (xs : List X) → filter p xs ≡ filter q xs
  filter-same p q h [] = refl
  filter-same p q h (x ∷ xs) = ap (λ b. cond b (x ∷ filter p xs) (filter p xs)) (h x) ∙ ap (λ ys. cond (q x) (x ∷ ys) ys) (filter-same p q h xs)

-- what two facts of a value say together
pub if_ok-both : {X E : Type 0} (P Q R : X → Type 0) → ((x : X) → P x → Q x → R x) → (r : Result X E) → IfOk r P → IfOk r Q → IfOk r R
if_ok-both P Q R both (Ok x) p q = both x p q
if_ok-both P Q R both (Err e) p q = tt

-- the search at the first element
pub found_here : {X : Type 0} (p : X → Bool) (x : X) (xs : List X) → p x ≡ true → find p (x ∷ xs) ≡ Some x
found_here p x xs h = ap (λ b. cond b (Some x) (find p xs)) h

pub found_later : {X : Type 0} (p : X → Bool) (x : X) (xs : List X) → p x ≡ false → find p (x ∷ xs) ≡ find p xs
found_later p x xs h = ap (λ b. cond b (Some x) (find p xs)) h
