-- Adds, each with a greater ordinal than those before it, in the order of the history's queues.
use Rattle.std.proofs.Common.{◌≡◌, inl, inr, ◌<◌, ◌≤◌, Bool, true, false, cond, nat_le, List, [], ◌∷◌, map, Less, Equal, sym, ap, subst, ◌∙◌, refl}
use Rattle.std.specs.Ordering.{nat_cmp, ordering_then}
use Rattle.std.specs.Cmp.{nat_cmp_is}
use Rattle.std.specs.List.{AllByRecursion}
use Rattle.std.specs.List.Sorted.{IsStrictlySortedBy, IsStrictlyIncreasing, IsPermutation}
use Rattle.std.proofs.Math.Nat.{eq-or-lt_of_le}
use Rattle.std.proofs.lemmas.Bool.{leb-true, leb-false}
use Rattle.std.proofs.lemmas.Cmp.{ranked}
use Rattle.std.proofs.lemmas.List.Sorted.{IsPermutation-sym}
use Rattle.std.proofs.lemmas.Map.Keys.{sorted_from_strictly_increasing}
use Rattle.crawl_kinds.specs.declared.item.Item.{Item}
use Rattle.crawl_history.specs.Queues.{Add, put_by_rank, in_rank_order}
use Rattle.host_queue.specs.Queue.{Entry, IsInOrder}
use Rattle.host_queue.specs.Laws.{entry_of}
use Rattle.host_queue.proofs.Order.{order, order_total}
use Rattle.host_queue.proofs.Members.{Has, all_has, all_from_has, has_permuted, same_members}

-- entries as the history puts their items
abbrev put_entry : Entry → List Entry → List Entry
put_entry e [] = e ∷ []
put_entry e (y ∷ ys) = cond (nat_le e.0.rank y.0.rank) (e ∷ y ∷ ys) (y ∷ put_entry e ys)

abbrev by_rank : List Entry → List Entry
by_rank [] = []
by_rank (e ∷ es) = put_entry e (by_rank es)

-- their items are those of the history
items_choose : (b : Bool) (xs ys : List Entry) (us vs : List Item) → map (λ (e : Entry). e.0) xs ≡ us → map (λ (e : Entry). e.0) ys ≡ vs → map (λ (e : Entry). e.0) (cond b xs ys) ≡ cond b us vs
items_choose true xs ys us vs here there = here
items_choose false xs ys us vs here there = there

items_put : (e : Entry) (ys : List Entry) → map (λ (x : Entry). x.0) (put_entry e ys) ≡ put_by_rank e.0 (map (λ (x : Entry). x.0) ys)
items_put e [] = refl
items_put e (y ∷ ys) =
    items_choose (nat_le e.0.rank y.0.rank) (e ∷ y ∷ ys) (y ∷ put_entry e ys) (e.0 ∷ y.0 ∷ map (λ (x : Entry). x.0) ys) (y.0 ∷ put_by_rank e.0 (map (λ (x : Entry). x.0) ys)) refl (ap (λ (l : List Item). y.0 ∷ l) (items_put e ys))

items_by_rank : (adds : List Add) → map (λ (x : Entry). x.0) (by_rank (map entry_of adds)) ≡ in_rank_order (map (λ a. a.item) adds)
items_by_rank [] = refl
items_by_rank (a ∷ adds) =
    items_put (entry_of a) (by_rank (map entry_of adds)) ∙ ap (put_by_rank a.item) (items_by_rank adds)

-- they have the same members
has_choose : (b : Bool) (xs ys : List Entry) (z : Entry) (P : Type 0) → (Has xs z → P) → (Has ys z → P) → Has (cond b xs ys) z → P
has_choose true xs ys z P here there has = here has
has_choose false xs ys z P here there has = there has

behind_first : (e y : Entry) (ys put : List Entry) (z : Entry) → (Has put z → Has (e ∷ ys) z) → Has (y ∷ put) z → Has (e ∷ y ∷ ys) z
behind_first e y ys put z on (inl is) = inr (inl is)
behind_first e y ys put z on (inr there) = elim (on there) [ inl is ↦ inl is | inr here ↦ inr (inr here) ]

put_has : (e : Entry) (ys : List Entry) (z : Entry) → Has (put_entry e ys) z → Has (e ∷ ys) z
put_has e [] z has = has
put_has e (y ∷ ys) z has =
    has_choose (nat_le e.0.rank y.0.rank) (e ∷ y ∷ ys) (y ∷ put_entry e ys) z (Has (e ∷ y ∷ ys) z) (λ h. h) (behind_first e y ys (put_entry e ys) z (put_has e ys z)) has

put_choose : (b : Bool) (e y : Entry) (ys put : List Entry) (z : Entry) → (Has (e ∷ ys) z → Has put z) → Has (e ∷ y ∷ ys) z → Has (cond b (e ∷ y ∷ ys) (y ∷ put)) z
put_choose true e y ys put z on has = has
put_choose false e y ys put z on (inl is) = inr (on (inl is))
put_choose false e y ys put z on (inr (inl is)) = inl is
put_choose false e y ys put z on (inr (inr there)) = inr (on (inr there))

has_put : (e : Entry) (ys : List Entry) (z : Entry) → Has (e ∷ ys) z → Has (put_entry e ys) z
has_put e [] z has = has
has_put e (y ∷ ys) z has =
    put_choose (nat_le e.0.rank y.0.rank) e y ys (put_entry e ys) z (has_put e ys z) has

by_rank_has : (es : List Entry) (z : Entry) → Has (by_rank es) z → Has es z
by_rank_has [] z has = has
by_rank_has (e ∷ es) z has =
    elim (put_has e (by_rank es) z has) [ inl is ↦ inl is | inr there ↦ inr (by_rank_has es z there) ]

has_by_rank : (es : List Entry) (z : Entry) → Has es z → Has (by_rank es) z
has_by_rank [] z has = has
has_by_rank (e ∷ es) z (inl is) = has_put e (by_rank es) z (inl is)
has_by_rank (e ∷ es) z (inr there) = has_put e (by_rank es) z (inr (has_by_rank es z there))

-- a rank no greater and a lower ordinal come first, and so does a lower rank
lower_rank : (e y : Entry) → e.0.rank < y.0.rank → order e y ≡ Less
lower_rank e y less = ap (λ r. ordering_then r (nat_cmp e.1 y.1)) (sym (nat_cmp_is e.0.rank y.0.rank Less less))

comes_first : (e y : Entry) → e.0.rank ≤ y.0.rank → e.1 < y.1 → order e y ≡ Less
comes_first e y le less =
    elim (eq-or-lt_of_le le) [
      | inl same ↦
          ap (λ r. ordering_then r (nat_cmp e.1 y.1)) (sym (nat_cmp_is e.0.rank y.0.rank Equal same))
          ∙ sym (nat_cmp_is e.1 y.1 Less less)
      | inr lower ↦ lower_rank e y lower
    ]

-- each has a greater ordinal
abbrev AreLater : Entry → List Entry → Type 0
AreLater e ys = AllByRecursion (λ y. e.1 < y.1) ys

-- an entry put among sorted ones that all have a greater ordinal
sorted_choose : (b : Bool) (e y : Entry) (ys put : List Entry) → nat_le e.0.rank y.0.rank ≡ b → IsInOrder (y ∷ ys) → IsInOrder put → e.1 < y.1 → ((z : Entry) → Has put z → Has (e ∷ ys) z) → IsInOrder (cond b (e ∷ y ∷ ys) (y ∷ put))
unfolding IsStrictlySortedBy
sorted_choose true e y ys put test sorted put_sorted later members =
    let first : order e y ≡ Less = comes_first e y (leb-true e.0.rank y.0.rank test) later in (
      (first, all_from_has (λ z. order e z ≡ Less) ys (λ z has. order_total.trans e y z first (all_has (λ z. order y z ≡ Less) ys sorted.0 z has))),
      sorted,
    )
sorted_choose false e y ys put test sorted put_sorted later members =
    let first : order y e ≡ Less = lower_rank y e (leb-false e.0.rank y.0.rank test) in (
      all_from_has (λ z. order y z ≡ Less) put (λ z has. elim (members z has) [ inl is ↦ subst (λ (x : Entry). order y x ≡ Less) is first | inr there ↦ all_has (λ z. order y z ≡ Less) ys sorted.0 z there ]),
      put_sorted,
    )

put_sorted : (e : Entry) (ys : List Entry) → IsInOrder ys → AreLater e ys → IsInOrder (put_entry e ys)
unfolding IsStrictlySortedBy
put_sorted e [] sorted later = (tt, tt)
put_sorted e (y ∷ ys) sorted later =
    sorted_choose (nat_le e.0.rank y.0.rank) e y ys (put_entry e ys) refl sorted (put_sorted e ys sorted.1 later.1) later.0 (put_has e ys)

-- the ordinals of adds ascend
later_entries : (a : Add) (adds : List Add) → AllByRecursion (λ n. nat_cmp a.ordinal n ≡ Less) (map (λ a. a.ordinal) adds) → AreLater (entry_of a) (map entry_of adds)
later_entries a [] all = tt
later_entries a (b ∷ adds) all = (ranked a.ordinal b.ordinal Less (sym all.0), later_entries a adds all.1)

by_rank_sorted : (adds : List Add) → IsStrictlySortedBy nat_cmp (map (λ a. a.ordinal) adds) → IsInOrder (by_rank (map entry_of adds))
unfolding IsStrictlySortedBy
by_rank_sorted [] ascends = tt
by_rank_sorted (a ∷ adds) ascends =
    let es = map entry_of adds in
    put_sorted (entry_of a) (by_rank es) (by_rank_sorted adds ascends.1) (all_from_has (λ y. a.ordinal < y.1) (by_rank es) (λ z has. all_has (λ y. a.ordinal < y.1) es (later_entries a adds ascends.0) z (by_rank_has es z has)))

-- a queue whose entries are these adds has their items as the history does
pub in_rank_order_of : (adds : List Add) (entries : List Entry) → IsStrictlyIncreasing (map (λ a. a.ordinal) adds) → IsInOrder entries → IsPermutation (map entry_of adds) entries → map (λ (e : Entry). e.0) entries ≡ in_rank_order (map (λ a. a.item) adds)
in_rank_order_of adds entries ascends sorted same =
    let es = map entry_of adds in
    let one : entries ≡ by_rank es =
    same_members entries (by_rank es) sorted (by_rank_sorted adds (sorted_from_strictly_increasing (map (λ a. a.ordinal) adds) ascends)) (λ z has. has_by_rank es z (has_permuted entries es (IsPermutation-sym es entries same) z has)) (λ z has. has_permuted es entries same z (by_rank_has es z has)) in
    ap (λ (l : List Entry). map (λ (e : Entry). e.0) l) one ∙ items_by_rank adds
