-- The first element that passes a test, over lists that grow at their end.
use Rattle.std.proofs.Common.{◌≡◌, ◌∙◌, ℕ, ◌+◌, ◌<◌, Some, None, Bool, true, false, not, List, [], ◌∷◌, ◌++◌, length, length-append, append_assoc, take, drop, get_or, refl, sym, ap, arith, cond, nat_lt}
use Rattle.std.specs.List.{position, position_or_len, prefix_len, list_any, flat_map}
use Rattle.std.proofs.lemmas.List.{drop_more, take-append-drop}
use Rattle.std.proofs.lemmas.List.Concat.{flat_map-append}
use Rattle.std.proofs.lemmas.Grind.{common_steps}

cond-some : (n m : ℕ) → n < m → cond (nat_lt n m) (Some n) None ≡ Some n
cond-some n m h = grind (arith, common_steps)

cond-none : (n : ℕ) → cond (nat_lt n n) (Some n) None ≡ None
cond-none n = grind (arith, common_steps)

some_of : (n m i : ℕ) → cond (nat_lt n m) (Some n) None ≡ Some i → (n < m) × (n ≡ i)
some_of n m i e = (grind (arith, common_steps), grind (arith, common_steps))

length-past : {X : Type 0} (p : X → Bool) (front : List X) (x : X) (rest : List X) → list_any p front ≡ false → p x ≡ true → prefix_len (λ y. not (p y)) (front ++ x ∷ rest) ≡ length front
length-past p [] x rest none is = grind (arith, common_steps)
length-past p (y ∷ front) x rest none is = let more = length-past p front x rest in grind (arith, common_steps)

-- the first stands behind those that do not pass
pub position-past : {X : Type 0} (p : X → Bool) (front : List X) (x : X) (rest : List X) → list_any p front ≡ false → p x ≡ true → position p (front ++ x ∷ rest) ≡ Some (length front)
position-past p front x rest none is =
    let e = length-past p front x rest none is in
    ap (λ n. cond (nat_lt n (length (front ++ x ∷ rest))) (Some n) None) e ∙ cond-some (length front) (length (front ++ x ∷ rest)) (simp length-append (omega arith))

length-none : {X : Type 0} (p : X → Bool) (xs : List X) → list_any p xs ≡ false → prefix_len (λ y. not (p y)) xs ≡ length xs
length-none p [] none = refl
length-none p (y ∷ xs) none = let more = length-none p xs in grind (arith, common_steps)

-- where none passes, there is no first
pub position-none : {X : Type 0} (p : X → Bool) (xs : List X) → list_any p xs ≡ false → position p xs ≡ None
position-none p xs none =
    ap (λ n. cond (nat_lt n (length xs)) (Some n) None) (length-none p xs none) ∙ cond-none (length xs)

length-front : {X : Type 0} (q : X → Bool) (xs ys : List X) → prefix_len q xs < length xs → prefix_len q (xs ++ ys) ≡ prefix_len q xs
length-front q [] ys h = absurd (omega arith)
length-front q (x ∷ xs) ys h = let more = length-front q xs ys in grind (arith, common_steps)

-- what follows does not change the first
pub position-front : {X : Type 0} (p : X → Bool) (xs ys : List X) (i : ℕ) → position p xs ≡ Some i → position p (xs ++ ys) ≡ Some i
position-front p xs ys i e =
    let at = some_of (position_or_len p xs) (length xs) i e in
    let same = length-front (λ y. not (p y)) xs ys at.0 in
    ap (λ n. cond (nat_lt n (length (xs ++ ys))) (Some n) None) (same ∙ at.1)
    ∙ cond-some i (length (xs ++ ys)) (let more = at.0 in let is = at.1 in simp length-append (omega arith))

-- the first of a list, where those before it stand at the end of others
pub first-behind : {X : Type 0} (p : X → Bool) (old texts items : List X) (k : ℕ) (x : X) → items ≡ old ++ take k texts → list_any p items ≡ false → k < length texts → x ≡ get_or texts k x → p x ≡ true → position p (old ++ texts) ≡ Some (length items)
first-behind p old texts items k x kept good h at is =
    let split : texts ≡ take k texts ++ x ∷ drop (k + 1) texts = sym (take-append-drop k texts) ∙ ap (λ r. take k texts ++ r) (drop_more texts k x h ∙ ap (λ y. y ∷ drop (k + 1) texts) (sym at)) in
    let whole : items ++ x ∷ drop (k + 1) texts ≡ old ++ texts = ap (λ r. r ++ x ∷ drop (k + 1) texts) kept ∙ append_assoc old (take k texts) (x ∷ drop (k + 1) texts) ∙ ap (λ t. old ++ t) (sym split) in
    ap (position p) (sym whole) ∙ position-past p items x (drop (k + 1) texts) good is

-- the first among the parts of all is the first among those of the first few
pub first-among : {X R : Type 0} (p : X → Bool) (f : R → List X) (rules : List R) (items : List X) (k : ℕ) (r : R) (i : ℕ) → items ≡ flat_map f (take k rules) → k < length rules → r ≡ get_or rules k r → position p (items ++ f r) ≡ Some i → position p (flat_map f rules) ≡ Some i
first-among p f rules items k r i kept h at found =
    let rest = flat_map f (drop (k + 1) rules) in
    let split : rules ≡ take k rules ++ r ∷ drop (k + 1) rules = sym (take-append-drop k rules) ∙ ap (λ t. take k rules ++ t) (drop_more rules k r h ∙ ap (λ y. y ∷ drop (k + 1) rules) (sym at)) in
    let parts : flat_map f rules ≡ (items ++ f r) ++ rest = ap (flat_map f) split ∙ flat_map-append f (take k rules) (r ∷ drop (k + 1) rules) ∙ ap (λ t. t ++ (f r ++ rest)) (sym kept) ∙ sym (append_assoc items (f r) rest) in
    ap (position p) parts ∙ position-front p (items ++ f r) rest i found
