-- Lemmas of lists: members that have a property, and what a search finds.
use Rattle.std.proofs.Common.{◌≡◌, ℕ, Bool, true, false, ◌&&◌, ◌||◌, cond, List, [], ◌∷◌, ◌++◌, map, refl, ◌∙◌, ap, subst, Option, Some, None}
use Rattle.std.specs.Prelude.{filter, find, option_map, bytes_eq, if◌then◌else◌}
use Rattle.std.specs.List.{AllByRecursion}
use Rattle.std.proofs.lemmas.Slice.Eq.{bytes_eq-Decides}
use Rattle.crawl_history.specs.Scans.{through, first_of, least_of, lesser}

-- ---- truth values

pub or_true : (b : Bool) → (b || true) ≡ true
or_true true = refl
or_true false = refl

pub or_left : (b c : Bool) → b ≡ true → (b || c) ≡ true
or_left b c e = ap (λ x. x || c) e

pub or_right : (b c : Bool) → c ≡ true → (b || c) ≡ true
or_right b c e = ap (λ x. b || x) e ∙ or_true b

pub and_false : (b : Bool) → (b && false) ≡ false
and_false true = refl
and_false false = refl

pub both : {b c : Bool} → b ≡ true → c ≡ true → (b && c) ≡ true
both {b} {c} p q = ap (λ x. x && c) p ∙ q

pub clash : true ≡ false → ⊥
clash e = cc e

pub same_some : {X : Type 0} (x y : X) → Some x ≡ Some y → x ≡ y
same_some x y e = cc e

pub bytes_itself : (k : List ℕ) → bytes_eq k k ≡ true
bytes_itself k = (bytes_eq-Decides k k).1 refl

-- ---- lists

pub through-found : {X : Type 0} (p : X → Bool) (xs zs ys : List X) → through p xs ≡ Some ys → through p (xs ++ zs) ≡ Some ys
through-found p [] zs ys e = cc e
through-found {X} p (x ∷ xs) zs ys e = by_head (p x) (through p xs) refl e (through-found p xs zs)
  where
    by_head :
        (b : Bool) (o : Option (List X)) → through p xs ≡ o → (if b then Some (x ∷ []) else option_map (λ us. x ∷ us) o) ≡ Some ys
        → ((us : List X) → through p xs ≡ Some us → through p (xs ++ zs) ≡ Some us)
        → (if b then Some (x ∷ []) else option_map (λ us. x ∷ us) (through p (xs ++ zs))) ≡ Some ys
    by_head true o is e rest = e
    by_head false None is e rest = cc e
    by_head false (Some us) is e rest = ap (option_map (λ vs. x ∷ vs)) (rest us is) ∙ e

pub through-not_found : {X : Type 0} (p : X → Bool) (xs : List X) (y : X) → through p xs ≡ None → through p (xs ++ y ∷ []) ≡ (if p y then Some (xs ++ y ∷ []) else None)
through-not_found {X} p [] y e = by_last (p y)
  where
    by_last : (b : Bool) → (if b then Some (y ∷ []) else option_map (λ us. y ∷ us) None) ≡ (if b then Some (y ∷ []) else None)
    by_last true = refl
    by_last false = refl
through-not_found {X} p (x ∷ xs) y e = by_head (p x) (through p xs) refl e (through-not_found p xs y)
  where
    by_last : (b : Bool) → option_map (λ us. x ∷ us) (if b then Some (xs ++ y ∷ []) else None) ≡ (if b then Some (x ∷ xs ++ y ∷ []) else None)
    by_last true = refl
    by_last false = refl

    by_head :
        (b : Bool) (o : Option (List X)) → through p xs ≡ o → (if b then Some (x ∷ []) else option_map (λ us. x ∷ us) o) ≡ None
        → (through p xs ≡ None → through p (xs ++ y ∷ []) ≡ (if p y then Some (xs ++ y ∷ []) else None))
        → (if b then Some (x ∷ []) else option_map (λ us. x ∷ us) (through p (xs ++ y ∷ []))) ≡ (if p y then Some (x ∷ xs ++ y ∷ []) else None)
    by_head true o is e rest = cc e
    by_head false (Some us) is e rest = cc e
    by_head false None is e rest = ap (option_map (λ us. x ∷ us)) (rest is) ∙ by_last (p y)

pub find-found : {X : Type 0} (q : X → Bool) (xs ys : List X) (x : X) → find q xs ≡ Some x → find q (xs ++ ys) ≡ Some x
find-found q [] ys x e = cc e
find-found {X} q (y ∷ xs) ys x e = by_head (q y) e (find-found q xs ys x)
  where
    by_head : (b : Bool) → cond b (Some y) (find q xs) ≡ Some x → (find q xs ≡ Some x → find q (xs ++ ys) ≡ Some x) → cond b (Some y) (find q (xs ++ ys)) ≡ Some x
    by_head true e rest = e
    by_head false e rest = rest e

pub find-not_found : {X : Type 0} (q : X → Bool) (xs : List X) (y : X) → AllByRecursion (λ x. q x ≡ false) xs → q y ≡ true → find q (xs ++ y ∷ []) ≡ Some y
find-not_found q [] y all e = ap (λ b. cond b (Some y) None) e
find-not_found q (x ∷ xs) y all e = ap (λ b. cond b (Some x) (find q (xs ++ y ∷ []))) all.0 ∙ find-not_found q xs y all.1 e

pub all-append : {X : Type 0} (P : X → Type 0) (xs ys : List X) → AllByRecursion P xs → AllByRecursion P ys → AllByRecursion P (xs ++ ys)
all-append P [] ys all more = more
all-append P (x ∷ xs) ys all more = (all.0, all-append P xs ys all.1 more)

pub all-mono : {X : Type 0} (P Q : X → Type 0) → ((x : X) → P x → Q x) → (xs : List X) → AllByRecursion P xs → AllByRecursion Q xs
all-mono P Q more [] all = tt
all-mono P Q more (x ∷ xs) all = (more x all.0, all-mono P Q more xs all.1)

pub all-both : {X : Type 0} (P Q : X → Type 0) (xs : List X) → AllByRecursion P xs → AllByRecursion Q xs → AllByRecursion (λ x. P x × Q x) xs
all-both P Q [] p q = tt
all-both P Q (x ∷ xs) p q = ((p.0, q.0), all-both P Q xs p.1 q.1)

-- of a list whose members have a property, what is found among those that pass has it, and passes
pub find_among : {X : Type 0} (P : X → Type 0) (q r : X → Bool) (xs : List X) → AllByRecursion P xs → (x : X) → find q (filter r xs) ≡ Some x → P x × (q x ≡ true) × (r x ≡ true)
find_among P q r [] all x e = cc e
find_among {X} P q r (y ∷ ys) all x e = by_cases (r y) refl e (find_among P q r ys all.1 x)
  where
    by_head : (b : Bool) → q y ≡ b → r y ≡ true → cond b (Some y) (find q (filter r ys)) ≡ Some x → (find q (filter r ys) ≡ Some x → P x × (q x ≡ true) × (r x ≡ true)) → P x × (q x ≡ true) × (r x ≡ true)
    by_head true is passes e rest = subst (λ z. P z × (q z ≡ true) × (r z ≡ true)) (same_some y x e) (all.0, is, passes)
    by_head false is passes e rest = rest e

    by_cases : (b : Bool) → r y ≡ b → find q (cond b (y ∷ filter r ys) (filter r ys)) ≡ Some x → (find q (filter r ys) ≡ Some x → P x × (q x ≡ true) × (r x ≡ true)) → P x × (q x ≡ true) × (r x ≡ true)
    by_cases true is e rest = by_head (q y) refl is e rest
    by_cases false is e rest = rest e

-- those that pass have what all have, and pass
pub all-filter : {X : Type 0} (P : X → Type 0) (p : X → Bool) (xs : List X) → AllByRecursion P xs → AllByRecursion (λ x. (p x ≡ true) × P x) (filter p xs)
all-filter P p [] all = tt
all-filter {X} P p (x ∷ xs) all = by_test (p x) refl (all-filter P p xs all.1)
  where
    by_test : (b : Bool) → p x ≡ b → AllByRecursion (λ x. (p x ≡ true) × P x) (filter p xs) → AllByRecursion (λ x. (p x ≡ true) × P x) (cond b (x ∷ filter p xs) (filter p xs))
    by_test true is rest = ((is, all.0), rest)
    by_test false is rest = rest

pub all-map : {X Y : Type 0} (P : Y → Type 0) (g : X → Y) (xs : List X) → AllByRecursion (λ x. P (g x)) xs → AllByRecursion P (map g xs)
all-map P g [] all = tt
all-map P g (x ∷ xs) all = (all.0, all-map P g xs all.1)

pub first-holds : {X : Type 0} (P : X → Type 0) (xs : List X) → AllByRecursion P xs → (x : X) → first_of xs ≡ Some x → P x
first-holds P [] all x e = cc e
first-holds {X} P (y ∷ ys) all x e = subst P (same_some y x e) all.0

pub least-holds : {X : Type 0} (before : X → X → Bool) (P : X → Type 0) (xs : List X) → AllByRecursion P xs → (x : X) → least_of before xs ≡ Some x → P x
least-holds before P [] all x e = cc e
least-holds {X} before P (y ∷ ys) all x e = subst P (same_some _ x e) (by_rest (least_of before ys) (least-holds before P ys all.1))
  where
    pick : (b : Bool) (z : X) → P z → P (if b then z else y)
    pick true z h = h
    pick false z h = all.0

    by_rest : (o : Option X) → ((z : X) → o ≡ Some z → P z) → P (lesser before y o)
    by_rest None rest = all.0
    by_rest (Some z) rest = pick (before z y) z (rest z refl)
