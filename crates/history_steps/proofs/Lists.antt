-- What one more element does to a scan of a list.
use Rattle.std.proofs.Common.{◌≡◌, Bool, true, false, List, [], ◌∷◌, ◌++◌, refl, sym, ◌∙◌, ap, Option, Some, None}
use Rattle.std.specs.Prelude.{flat_map, unwrap_or, option_map, if◌then◌else◌}
use Rattle.std.specs.Option.{option_or}
use Rattle.std.proofs.lemmas.List.{append-nil, append_assoc}
use Rattle.crawl_history.specs.Scans.{last_of, behind_last, after_last}

option_or-none : {X : Type 0} (o : Option X) → option_or o None ≡ o
option_or-none None = refl
option_or-none (Some x) = refl

option_or-assoc : {X : Type 0} (o p q : Option X) → option_or (option_or o p) q ≡ option_or o (option_or p q)
option_or-assoc None p q = refl
option_or-assoc (Some x) p q = refl

pub last_of-snoc : {X Y : Type 0} (f : X → Option Y) (xs : List X) (x : X) → last_of f (xs ++ x ∷ []) ≡ option_or (f x) (last_of f xs)
last_of-snoc f [] x = sym (option_or-none (f x))
last_of-snoc f (y ∷ ys) x = ap (λ o. option_or o (f y)) (last_of-snoc f ys x) ∙ option_or-assoc (f x) (last_of f ys) (f y)

pub last_of-append : {X Y : Type 0} (f : X → Option Y) (xs zs : List X) → last_of f (xs ++ zs) ≡ option_or (last_of f zs) (last_of f xs)
last_of-append f [] zs = sym (option_or-none (last_of f zs))
last_of-append f (y ∷ ys) zs = ap (λ o. option_or o (f y)) (last_of-append f ys zs) ∙ option_or-assoc (last_of f zs) (last_of f ys) (f y)

pub behind_last-snoc : {X : Type 0} (p : X → Bool) (xs : List X) (x : X) → behind_last p (xs ++ x ∷ []) ≡ (if p x then Some [] else option_map (λ ys. ys ++ x ∷ []) (behind_last p xs))
behind_last-snoc {X} p [] x = refl
behind_last-snoc {X} p (y ∷ ys) x =
    ap (λ o. option_or o (if p y then Some (ys ++ x ∷ []) else None)) (behind_last-snoc p ys x) ∙ by_cases (p x) (p y) (behind_last p ys)
  where
    by_cases :
        (b c : Bool) (o : Option (List X)) → option_or (if b then Some [] else option_map (λ ys. ys ++ x ∷ []) o) (if c then Some (ys ++ x ∷ []) else None)
        ≡ (if b then Some [] else option_map (λ ys. ys ++ x ∷ []) (option_or o (if c then Some ys else None)))
    by_cases true c o = refl
    by_cases false true (Some zs) = refl
    by_cases false true None = refl
    by_cases false false (Some zs) = refl
    by_cases false false None = refl

pub after_last-snoc : {X : Type 0} (p : X → Bool) (xs : List X) (x : X) → after_last p (xs ++ x ∷ []) ≡ (if p x then [] else after_last p xs ++ x ∷ [])
after_last-snoc {X} p xs x = ap (λ o. unwrap_or o (xs ++ x ∷ [])) (behind_last-snoc p xs x) ∙ by_cases (p x) (behind_last p xs)
  where
    by_cases : (b : Bool) (o : Option (List X)) → unwrap_or (if b then Some [] else option_map (λ ys. ys ++ x ∷ []) o) (xs ++ x ∷ []) ≡ (if b then [] else unwrap_or o xs ++ x ∷ [])
    by_cases true o = refl
    by_cases false (Some zs) = refl
    by_cases false None = refl

pub flat_map-snoc : {X Y : Type 0} (f : X → List Y) (xs : List X) (x : X) → flat_map f (xs ++ x ∷ []) ≡ flat_map f xs ++ f x
flat_map-snoc f [] x = append-nil (f x)
flat_map-snoc f (y ∷ ys) x = ap (λ zs. f y ++ zs) (flat_map-snoc f ys x) ∙ sym (append_assoc (f y) (flat_map f ys) (f x))
