-- Two lists in order with the same members are one.
use Rattle.std.proofs.Common.{◌≡◌, ◌⊎◌, inl, inr, ℕ, zero, suc, ◌<◌, List, [], ◌∷◌, length, get_or, Less, sym, ap, subst, ◌∙◌, refl, arith}
use Rattle.std.specs.Ordering.{ordering_reverse}
use Rattle.std.specs.Cmp.{tied_itself}
use Rattle.std.specs.List.{AllByRecursion, Contains}
use Rattle.std.specs.List.Sorted.{IsPermutation}
use Rattle.std.proofs.lemmas.List.Sorted.{Contains-permutation, IsPermutation-sym}
use Rattle.std.proofs.lemmas.Map.Keys.{sorted_head, sorted_tail}
use Rattle.host_queue.specs.Queue.{Entry, IsInOrder}
use Rattle.host_queue.proofs.Order.{order, order_total}

-- an entry is one of these
abbrev pub Has : List Entry → Entry → Type 0
Has [] z = ⊥
Has (x ∷ xs) z = (x ≡ z) ⊎ Has xs z

-- as a contract says it
has_from_place : (xs : List Entry) (z : Entry) (k : ℕ) → k < length xs → get_or xs k z ≡ z → Has xs z
has_from_place [] z k lt is = absurd (omega arith)
has_from_place (x ∷ xs) z zero lt is = inl is
has_from_place (x ∷ xs) z (suc k) lt is = inr (has_from_place xs z k (omega arith) is)

contains_from_has : (xs : List Entry) (z : Entry) → Has xs z → Contains xs z
contains_from_has [] z has = absurd has
contains_from_has (x ∷ xs) z (inl is) = (0, omega arith, is)
contains_from_has (x ∷ xs) z (inr has) =
    let at = contains_from_has xs z has in
    (suc at.0, omega (arith, at.1), at.2)

pub has_permuted : (xs ys : List Entry) → IsPermutation xs ys → (z : Entry) → Has xs z → Has ys z
has_permuted xs ys same z has =
    let at = Contains-permutation xs ys z same (contains_from_has xs z has) in
    has_from_place ys z at.0 at.1 at.2

-- what holds of each holds of one
pub all_has : (P : Entry → Type 0) (xs : List Entry) → AllByRecursion P xs → (z : Entry) → Has xs z → P z
all_has P [] all z has = absurd has
all_has P (x ∷ xs) all z (inl is) = subst P is all.0
all_has P (x ∷ xs) all z (inr has) = all_has P xs all.1 z has

-- and what holds of each one holds of all
pub all_from_has : (P : Entry → Type 0) (xs : List Entry) → ((z : Entry) → Has xs z → P z) → AllByRecursion P xs
all_from_has P [] each = tt
all_from_has P (x ∷ xs) each = (each x (inl refl), all_from_has P xs (λ z has. each z (inr has)))

-- of two entries, not each comes first
not_both : (x y : Entry) → order x y ≡ Less → order y x ≡ Less → ⊥
not_both x y one other = cc (sym one ∙ order_total.antisymm x y ∙ ap ordering_reverse other)

not_itself : (x : Entry) → order x x ≡ Less → ⊥
not_itself x less = cc (sym less ∙ tied_itself order_total x)

-- the first entries are one
first_is : (x y : Entry) (xs ys : List Entry) → IsInOrder (x ∷ xs) → IsInOrder (y ∷ ys) → Has (y ∷ ys) x → Has (x ∷ xs) y → x ≡ y
first_is x y xs ys one other (inl is) there = sym is
first_is x y xs ys one other (inr here) (inl is) = is
first_is x y xs ys one other (inr here) (inr there) =
    absurd (not_both x y (all_has (λ z. order x z ≡ Less) xs (sorted_head order x xs one) y there) (all_has (λ z. order y z ≡ Less) ys (sorted_head order y ys other) x here))

-- and so are the others
rest_has : (x y z : Entry) (xs ys : List Entry) → IsInOrder (x ∷ xs) → x ≡ y → Has xs z → Has (y ∷ ys) z → Has ys z
rest_has x y z xs ys sorted same here (inl is) =
    absurd (not_itself z (subst (λ (e : Entry). order e z ≡ Less) (same ∙ is) (all_has (λ z. order x z ≡ Less) xs (sorted_head order x xs sorted) z here)))
rest_has x y z xs ys sorted same here (inr there) = there

pub same_members : (xs ys : List Entry) → IsInOrder xs → IsInOrder ys → ((z : Entry) → Has xs z → Has ys z) → ((z : Entry) → Has ys z → Has xs z) → xs ≡ ys
same_members [] [] one other there back = refl
same_members [] (y ∷ ys) one other there back = absurd (back y (inl refl))
same_members (x ∷ xs) [] one other there back = absurd (there x (inl refl))
same_members (x ∷ xs) (y ∷ ys) one other there back =
    let first = first_is x y xs ys one other (there x (inl refl)) (back y (inl refl)) in
    let rest = same_members xs ys (sorted_tail order x xs one) (sorted_tail order y ys other) (λ z has. rest_has x y z xs ys one first has (there z (inr has))) (λ z has. rest_has y x z ys xs other (sym first) has (back z (inr has))) in
    λ i. first i ∷ rest i

-- two queues with the same entries are one
pub one_order : (xs ys : List Entry) → IsInOrder xs → IsInOrder ys → IsPermutation xs ys → xs ≡ ys
one_order xs ys one other same =
    same_members xs ys one other (has_permuted xs ys same) (has_permuted ys xs (IsPermutation-sym xs ys same))
