-- A text is cut into pieces in exactly one way, and its pieces are its first and those behind it.
use Rattle.std.proofs.Common.{◌≡◌, ◌↔◌, ℕ, suc, zero, ◌+◌, ◌-◌, ◌<◌, ◌≤◌, List, [], ◌∷◌, ◌++◌, length, drop, refl, sym, ◌∙◌, ap, subst, arith, Option, Some, None, length-drop, Bool, true, false, cond, sum_by, get_or}
use Rattle.std.specs.Option.{option_map_or}
use Rattle.std.specs.List.{flat_map}
use Rattle.std.proofs.lemmas.List.{drop-drop, drop_more, drop_all}
use Rattle.std.proofs.lemmas.List.Sums.{sum_by-cons}
use Rattle.link_spec.specs.Cut.{Piece, before_where, behind, front, IsCut, cut, pieces, given, passing, found_or_byte, sought}

by_front : {X : Type 0} (at : List ℕ → Option (Piece X)) (n : ℕ) (b : ℕ) (rest : List ℕ) → ((t : List ℕ) → length t ≤ n → IsCut at t (cut at n t)) → length rest ≤ n → (o : Option (Piece X)) → at (b ∷ rest) ≡ o → IsCut at (b ∷ rest) (option_map_or (λ p. p ∷ cut at n (behind p (b ∷ rest))) o [])
by_front at n b rest ih h None e = e
by_front at n b rest ih h (Some p) e = (e, ih (drop (p.size - 1) rest) (omega (arith, length-drop (p.size - 1) rest)))

cut-is : {X : Type 0} (at : List ℕ → Option (Piece X)) (n : ℕ) (text : List ℕ) → length text ≤ n → IsCut at text (cut at n text)
cut-is at zero [] h = refl
cut-is at zero (b ∷ rest) h = absurd (omega arith)
cut-is at (suc n) [] h = refl
cut-is at (suc n) (b ∷ rest) h = by_front at n b rest (cut-is at n) (omega arith) (at (b ∷ rest)) refl

pub pieces-cut : {X : Type 0} (at : List ℕ → Option (Piece X)) (text : List ℕ) → IsCut at text (pieces at text)
unfolding pieces
pieces-cut at text = cut-is at (length text) text (omega arith)

pub cut-unique : {X : Type 0} (at : List ℕ → Option (Piece X)) (text : List ℕ) (ps qs : List (Piece X)) → IsCut at text ps → IsCut at text qs → ps ≡ qs
cut-unique at text [] [] a b = refl
cut-unique at text [] (q ∷ qs) a b = absurd (cc (a, b.0))
cut-unique at text (p ∷ ps) [] a b = absurd (cc (a.0, b))
cut-unique {X} at text (p ∷ ps) (q ∷ qs) a b =
    let same : p ≡ q = cc (a.0, b.0) in
    let P : Piece X → Type 0 = λ r. IsCut at (behind r text) qs in
    let rest = cut-unique at (behind p text) ps qs a.1 (subst P (sym same) b.1) in
    λ i. same i ∷ rest i

pub cut-once : {X : Type 0} (at : List ℕ → Option (Piece X)) (text : List ℕ) (ps : List (Piece X)) → (IsCut at text ps) ↔ (ps ≡ pieces at text)
cut-once {X} at text ps =
    let P : List (Piece X) → Type 0 = λ qs. IsCut at text qs in
    (λ h. cut-unique at text ps (pieces at text) h (pieces-cut at text), λ e. subst P (sym e) (pieces-cut at text))

pub pieces-some : {X : Type 0} (at : List ℕ → Option (Piece X)) (text : List ℕ) (p : Piece X) → front at text ≡ Some p → pieces at text ≡ p ∷ pieces at (behind p text)
pieces-some at text p e = cut-unique at text (pieces at text) (p ∷ pieces at (behind p text)) (pieces-cut at text) (e, pieces-cut at (behind p text))

pub pieces-none : {X : Type 0} (at : List ℕ → Option (Piece X)) (text : List ℕ) → front at text ≡ None → pieces at text ≡ []
pieces-none at text e = cut-unique at text (pieces at text) [] (pieces-cut at text) e

pub front-at : {X : Type 0} (at : List ℕ → Option (Piece X)) (text : List ℕ) → 0 < length text → front at text ≡ at text
front-at at [] h = absurd (omega arith)
front-at at (b ∷ rest) h = refl

pub behind-drop : {X : Type 0} (p : Piece X) (text : List ℕ) → 0 < p.size → behind p text ≡ drop p.size text
behind-drop p text h =
    let e : 1 + (p.size - 1) ≡ p.size = omega arith in
    drop-drop (p.size - 1) 1 text ∙ ap (λ n. drop n text) e

-- what a text gives is what its first piece gives, and then what is left
pub given-more : {X : Type 0} (at : List ℕ → Option (Piece (List X))) (text : List ℕ) (p : Piece (List X)) → 0 < length text → 0 < p.size → at text ≡ Some p → given at text ≡ p.gives ++ given at (drop p.size text)
given-more at text p some first e =
    ap (λ ps. flat_map (λ q. q.gives) ps) (pieces-some at text p (front-at at text some ∙ e))
    ∙ ap (λ t. p.gives ++ given at t) (behind-drop p text first)

pub given-end : {X : Type 0} (at : List ℕ → Option (Piece (List X))) → given at [] ≡ []
given-end at = ap (λ ps. flat_map (λ q. q.gives) ps) (pieces-none at [] refl)

-- what is sought where something is found, and where nothing is
pub sought-some : {X : Type 0} (rule : List ℕ → Option (Piece X)) (text : List ℕ) (p : Piece X) → 0 < length text → 0 < p.size → rule text ≡ Some p → sought rule text ≡ p.gives ∷ sought rule (drop p.size text)
sought-some rule text p some first e = given-more (passing rule) text (found_or_byte (Some p)) some first (ap (λ o. Some (found_or_byte o)) e)

pub sought-none : {X : Type 0} (rule : List ℕ → Option (Piece X)) (text : List ℕ) → 0 < length text → rule text ≡ None → sought rule text ≡ sought rule (drop 1 text)
sought-none rule text some e = given-more (passing rule) text (found_or_byte None) some (omega arith) (ap (λ o. Some (found_or_byte o)) e)

-- what the pieces take is what the first takes, and then what those behind it take
pub size-more : {X : Type 0} (at : List ℕ → Option (Piece X)) (text : List ℕ) (p : Piece X) → 0 < length text → 0 < p.size → at text ≡ Some p → sum_by (λ q. q.size) (pieces at text) ≡ p.size + sum_by (λ q. q.size) (pieces at (drop p.size text))
size-more {X} at text p some first e =
    let size : Piece X → ℕ = λ q. q.size in
    ap (λ ps. sum_by size ps) (pieces-some at text p (front-at at text some ∙ e))
    ∙ sum_by-cons size p (pieces at (behind p text))
    ∙ ap (λ t. p.size + sum_by (λ q. q.size) (pieces at t)) (behind-drop p text first)

-- the pieces, with a function of each
pub flat-more : {X Y : Type 0} (f : Piece X → List Y) (at : List ℕ → Option (Piece X)) (text : List ℕ) (p : Piece X) → 0 < length text → 0 < p.size → at text ≡ Some p → flat_map f (pieces at text) ≡ f p ++ flat_map f (pieces at (drop p.size text))
flat-more f at text p some first e =
    ap (λ ps. flat_map f ps) (pieces-some at text p (front-at at text some ∙ e))
    ∙ ap (λ t. f p ++ flat_map f (pieces at t)) (behind-drop p text first)

-- a place at which the test fails is passed over
pub before_where-more : (p : List ℕ → Bool) (text : List ℕ) (k : ℕ) → k < length text → p (drop k text) ≡ false → before_where p (drop k text) ≡ 1 + before_where p (drop (k + 1) text)
before_where-more p text k h e =
    let step = drop_more text k 0 h in
    let fails : p (get_or text k 0 ∷ drop (k + 1) text) ≡ false = sym (ap p step) ∙ e in
    ap (before_where p) step ∙ ap (λ t. cond t 0 (1 + before_where p (drop (k + 1) text))) fails

pub before_where-here : (p : List ℕ → Bool) (text : List ℕ) → p text ≡ true → before_where p text ≡ 0
before_where-here p [] e = refl
before_where-here p (b ∷ rest) e = ap (λ t. cond t 0 (1 + before_where p rest)) e

pub before_where-end : (p : List ℕ → Bool) (text : List ℕ) (k : ℕ) → length text ≤ k → before_where p (drop k text) ≡ 0
before_where-end p text k h = ap (before_where p) (drop_all k text h)

le-by : (t : Bool) (n m : ℕ) → n ≤ m → cond t 0 (1 + n) ≤ suc m
le-by true n m h = omega arith
le-by false n m h = omega arith

pub before_where-le : (p : List ℕ → Bool) (text : List ℕ) → before_where p text ≤ length text
before_where-le p [] = omega arith
before_where-le p (b ∷ rest) = le-by (p (b ∷ rest)) (before_where p rest) (length rest) (before_where-le p rest)
