-- Two lists of which each has its elements once, with the same elements, are one in another order.
--     Apart xs      each element stands once
use Rattle.std.proofs.Common.{◌≡◌, ◌⊎◌, inl, inr, List, [], ◌∷◌, ◌++◌, refl, sym, ◌∙◌, ap, subst}
use Rattle.std.specs.List.Sorted.{IsPermutation}
use Rattle.std.proofs.lemmas.List.Sorted.{IsPermutation-refl, IsPermutation-cons, IsPermutation-sym, IsPermutation-middle, IsPermutation-trans}
use Rattle.emission_laws.proofs.Members.{Among, none_among}

-- each element stands once
abbrev pub Apart : {X : Type 0} → List X → Type 0
Apart [] = Unit {0}
Apart {X} (x ∷ xs) = ((z : X) → Among xs z → x ≡ z → ⊥) × Apart xs

-- the elements before and behind one
pub record Around {X : Type 0} (xs : List X) (x : X) : Type 0 where
  pub front : List X
  pub back : List X
  pub is : xs ≡ front ++ x ∷ back

split : {X : Type 0} (xs : List X) (x : X) → Among xs x → Around xs x
split [] x h = absurd h
split (y ∷ ys) x (inl same) = record { front = []; back = ys; is = ap (λ z. z ∷ ys) same }
split {X} (y ∷ ys) x (inr rest) = later (split ys x rest)
  where
    later : Around ys x → Around (y ∷ ys) x
    later around = record { front = y ∷ around.front; back = around.back; is = ap (λ zs. y ∷ zs) around.is }

-- what is among the others is among all
among-with : {X : Type 0} (front back : List X) (x z : X) → Among (front ++ back) z → Among (front ++ x ∷ back) z
among-with [] back x z h = inr h
among-with (y ∷ front) back x z (inl same) = inl same
among-with (y ∷ front) back x z (inr rest) = inr (among-with front back x z rest)

-- what is among all is this one or among the others
among-without : {X : Type 0} (front back : List X) (x z : X) → Among (front ++ x ∷ back) z → (x ≡ z) ⊎ Among (front ++ back) z
among-without [] back x z h = h
among-without (y ∷ front) back x z (inl same) = inr (inl same)
among-without {X} (y ∷ front) back x z (inr rest) = later (among-without front back x z rest)
  where
    later : (x ≡ z) ⊎ Among (front ++ back) z → (x ≡ z) ⊎ Among (y ∷ (front ++ back)) z
    later (inl same) = inl same
    later (inr rest) = inr (inr rest)

-- without one, the others stand once, and none of them is that one
apart-without : {X : Type 0} (front back : List X) (x : X) → Apart (front ++ x ∷ back) → Apart (front ++ back)
apart-without [] back x apart = apart.1
apart-without (y ∷ front) back x apart = (λ z h. apart.0 z (among-with front back x z h), apart-without front back x apart.1)

middle : {X : Type 0} (front back : List X) (x : X) → Among (front ++ x ∷ back) x
middle [] back x = inl refl
middle (y ∷ front) back x = inr (middle front back x)

apart-from : {X : Type 0} (front back : List X) (x : X) → Apart (front ++ x ∷ back) → (z : X) → Among (front ++ back) z → x ≡ z → ⊥
apart-from [] back x apart z h same = apart.0 z h same
apart-from (y ∷ front) back x apart z (inl is) same = apart.0 x (middle front back x) (is ∙ sym same)
apart-from (y ∷ front) back x apart z (inr rest) same = apart-from front back x apart.1 z rest same

-- what is not this one is among the others
the_other : {X : Type 0} (xs : List X) (x z : X) → (x ≡ z → ⊥) → (x ≡ z) ⊎ Among xs z → Among xs z
the_other xs x z apart (inl same) = absurd (apart same)
the_other xs x z apart (inr rest) = rest

pub same_elements :
    {X : Type 0} (xs ys : List X) → Apart xs → Apart ys → ((z : X) → Among xs z → Among ys z) → ((z : X) → Among ys z → Among xs z) → IsPermutation xs ys
same_elements [] ys one other there back = subst (IsPermutation []) (sym (none_among ys back)) (IsPermutation-refl [])
same_elements {X} (x ∷ xs) ys one other there back =
    let around = split ys x (there x (inl refl)) in
    let others : List X = around.front ++ around.back in
    let apart : Apart (around.front ++ x ∷ around.back) = subst (λ (zs : List X). Apart zs) around.is other in
    let rest : IsPermutation xs others =
    same_elements xs others one.1 (apart-without around.front around.back x apart)
    (λ z h. the_other others x z (one.0 z h) (among-without around.front around.back x z (subst (λ (zs : List X). Among zs z) around.is (there z (inr h)))))
    (λ z h. the_other xs x z (apart-from around.front around.back x apart z h) (back z (subst (λ (zs : List X). Among zs z) (sym around.is) (among-with around.front around.back x z h)))) in
    subst (IsPermutation (x ∷ xs)) (sym around.is)
    (IsPermutation-trans (x ∷ xs) (x ∷ others) (around.front ++ x ∷ around.back) (IsPermutation-cons x xs others rest)
    (IsPermutation-sym (around.front ++ x ∷ around.back) (x ∷ others) (IsPermutation-middle around.front x around.back)))
