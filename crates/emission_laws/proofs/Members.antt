-- What is among the elements of a list that is filtered, mapped or made distinct.
--     Among xs x      x is an element of xs, by recursion
use Rattle.std.proofs.Common.{◌≡◌, ℕ, zero, suc, ◌⊎◌, inl, inr, Bool, true, false, ◌||◌, cond, List, [], ◌∷◌, map, refl, sym, ◌∙◌, ap, subst, arith}
use Rattle.std.specs.Prelude.{filter, bytes_eq, Contains, if◌then◌else◌}
use Rattle.std.specs.List.{list_any, AllByRecursion}
use Rattle.std.proofs.lemmas.Slice.Eq.{bytes_eq-Decides}
use Rattle.crawl_history.specs.Scans.{distinct, distinct_from}

-- x is an element of xs
abbrev pub Among : {X : Type 0} → List X → X → Type 0
Among [] x = ⊥
Among (y ∷ ys) x = (y ≡ x) ⊎ Among ys x

pub from_contains : {X : Type 0} (xs : List X) (x : X) → Contains xs x → Among xs x
from_contains [] x (k, lt, is) = absurd (omega arith)
from_contains (y ∷ ys) x (zero, lt, is) = inl is
from_contains (y ∷ ys) x (suc k, lt, is) = inr (from_contains ys x (k, omega arith, is))

pub to_contains : {X : Type 0} (xs : List X) (x : X) → Among xs x → Contains xs x
to_contains [] x h = absurd h
to_contains (y ∷ ys) x (inl is) = (0, omega arith, is)
to_contains (y ∷ ys) x (inr rest) = one_more (to_contains ys x rest)
  where
    one_more : Contains ys x → Contains (y ∷ ys) x
    one_more (k, lt, is) = (suc k, omega arith, is)

pub none_among : {X : Type 0} (xs : List X) → ((x : X) → Among xs x → ⊥) → xs ≡ []
none_among [] none = refl
none_among (x ∷ xs) none = absurd (none x (inl refl))

pub all_among : {X : Type 0} (P : X → Type 0) (xs : List X) (x : X) → AllByRecursion P xs → Among xs x → P x
all_among P [] x all h = absurd h
all_among P (y ∷ ys) x all (inl is) = subst P is all.0
all_among P (y ∷ ys) x all (inr rest) = all_among P ys x all.1 rest

-- ---- filtered

pub among-filter : {X : Type 0} (p : X → Bool) (xs : List X) (x : X) → Among xs x → p x ≡ true → Among (filter p xs) x
among-filter p [] x h pass = h
among-filter {X} p (y ∷ ys) x h pass = by_test (p y) refl h (λ rest. among-filter p ys x rest pass)
  where
    by_test : (b : Bool) → p y ≡ b → (y ≡ x) ⊎ Among ys x → (Among ys x → Among (filter p ys) x) → Among (cond b (y ∷ filter p ys) (filter p ys)) x
    by_test true is (inl same) more = inl same
    by_test true is (inr rest) more = inr (more rest)
    by_test false is (inl same) more = let e = ap p same in cc
    by_test false is (inr rest) more = more rest

pub from-filter : {X : Type 0} (p : X → Bool) (xs : List X) (x : X) → Among (filter p xs) x → Among xs x × (p x ≡ true)
from-filter p [] x h = absurd h
from-filter {X} p (y ∷ ys) x h = by_test (p y) refl h (from-filter p ys x)
  where
    later : Among ys x × (p x ≡ true) → ((y ≡ x) ⊎ Among ys x) × (p x ≡ true)
    later (rest, pass) = (inr rest, pass)

    by_test :
        (b : Bool) → p y ≡ b → Among (cond b (y ∷ filter p ys) (filter p ys)) x
        → (Among (filter p ys) x → Among ys x × (p x ≡ true)) → ((y ≡ x) ⊎ Among ys x) × (p x ≡ true)
    by_test true is (inl same) more = (inl same, ap p (sym same) ∙ is)
    by_test true is (inr rest) more = later (more rest)
    by_test false is h more = later (more h)

-- ---- mapped

pub among-map : {X Y : Type 0} (f : X → Y) (xs : List X) (x : X) → Among xs x → Among (map f xs) (f x)
among-map f [] x h = h
among-map f (y ∷ ys) x (inl same) = inl (ap f same)
among-map f (y ∷ ys) x (inr rest) = inr (among-map f ys x rest)

pub from-map : {X Y : Type 0} (f : X → Y) (xs : List X) (z : Y) → Among (map f xs) z → (x : X) × Among xs x × (f x ≡ z)
from-map f [] z h = absurd h
from-map f (y ∷ ys) z (inl same) = (y, inl refl, same)
from-map {X} f (y ∷ ys) z (inr rest) = later (from-map f ys z rest)
  where
    later : (x : X) × Among ys x × (f x ≡ z) → (x : X) × Among (y ∷ ys) x × (f x ≡ z)
    later (x, h, is) = (x, inr h, is)

-- ---- made distinct

any_among : (k : List ℕ) (ks : List (List ℕ)) → list_any (bytes_eq k) ks ≡ true → Among ks k
any_among k [] any = cc
any_among k (j ∷ ks) any = by_test (bytes_eq k j) refl any (any_among k ks)
  where
    by_test : (b : Bool) → bytes_eq k j ≡ b → (b || list_any (bytes_eq k) ks) ≡ true → (list_any (bytes_eq k) ks ≡ true → Among ks k) → (j ≡ k) ⊎ Among ks k
    by_test true is any more = inl (sym ((bytes_eq-Decides k j).0 is))
    by_test false is any more = inr (more any)

among-distinct_from : (seen ks : List (List ℕ)) (k : List ℕ) → Among ks k → Among seen k ⊎ Among (distinct_from bytes_eq seen ks) k
among-distinct_from seen [] k h = absurd h
among-distinct_from seen (j ∷ ks) k h =
    by_test (list_any (bytes_eq j) seen) refl h (among-distinct_from seen ks k) (among-distinct_from (j ∷ seen) ks k)
  where
    there : ((j ≡ k) ⊎ Among seen k) ⊎ Among (distinct_from bytes_eq (j ∷ seen) ks) k → Among seen k ⊎ ((j ≡ k) ⊎ Among (distinct_from bytes_eq (j ∷ seen) ks) k)
    there (inl (inl same)) = inr (inl same)
    there (inl (inr before)) = inl before
    there (inr after) = inr (inr after)

    by_test :
        (b : Bool) → list_any (bytes_eq j) seen ≡ b → (j ≡ k) ⊎ Among ks k
        → (Among ks k → Among seen k ⊎ Among (distinct_from bytes_eq seen ks) k)
        → (Among ks k → ((j ≡ k) ⊎ Among seen k) ⊎ Among (distinct_from bytes_eq (j ∷ seen) ks) k)
        → Among seen k ⊎ Among (if b then distinct_from bytes_eq seen ks else j ∷ distinct_from bytes_eq (j ∷ seen) ks) k
    by_test true is (inl same) known new = inl (subst (Among seen) same (any_among j seen is))
    by_test true is (inr rest) known new = known rest
    by_test false is (inl same) known new = inr (inl same)
    by_test false is (inr rest) known new = there (new rest)

pub among-distinct : (ks : List (List ℕ)) (k : List ℕ) → Among ks k → Among (distinct bytes_eq ks) k
among-distinct ks k h = unseen (among-distinct_from [] ks k h)
  where
    unseen : ⊥ ⊎ Among (distinct bytes_eq ks) k → Among (distinct bytes_eq ks) k
    unseen (inl seen) = absurd seen
    unseen (inr new) = new

from-distinct_from : (seen ks : List (List ℕ)) (k : List ℕ) → Among (distinct_from bytes_eq seen ks) k → Among ks k
from-distinct_from seen [] k h = absurd h
from-distinct_from seen (j ∷ ks) k h =
    by_test (list_any (bytes_eq j) seen) h (from-distinct_from seen ks k) (from-distinct_from (j ∷ seen) ks k)
  where
    by_test :
        (b : Bool) → Among (if b then distinct_from bytes_eq seen ks else j ∷ distinct_from bytes_eq (j ∷ seen) ks) k
        → (Among (distinct_from bytes_eq seen ks) k → Among ks k) → (Among (distinct_from bytes_eq (j ∷ seen) ks) k → Among ks k)
        → (j ≡ k) ⊎ Among ks k
    by_test true h known new = inr (known h)
    by_test false (inl same) known new = inl same
    by_test false (inr rest) known new = inr (new rest)

pub from-distinct : (ks : List (List ℕ)) (k : List ℕ) → Among (distinct bytes_eq ks) k → Among ks k
from-distinct ks k h = from-distinct_from [] ks k h
