-- The least element of a list, and the first of a queue.
use Rattle.std.proofs.Common.{◌≡◌, ℕ, ◌<◌, inl, inr, Bool, true, false, cond, List, [], ◌∷◌, map, refl, sym, ◌∙◌, ap, subst, arith, nat_lt, nat_le, lt-ltb, Option, Some, None}
use Rattle.std.specs.Prelude.{filter, ⊤, if◌then◌else◌}
use Rattle.std.specs.List.{AllByRecursion}
use Rattle.std.specs.Ordering.{is_lt}
use Rattle.std.proofs.lemmas.Bool.{leb-true, leb-false}
use Rattle.crawl_kinds.specs.declared.item.Item.{Item}
use Rattle.crawl_history.specs.Scans.{first_of, lesser, least_of}
use Rattle.crawl_history.specs.Queues.{Add, put_by_rank, in_rank_order}
use Rattle.emission_laws.proofs.Members.{Among, all_among, from-map}
use Rattle.emission_laws.proofs.Order.{queue_order, rank_not_less, rank_greater}

-- ---- the least element

pub least-among : {X : Type 0} (before : X → X → Bool) (xs : List X) (x : X) → least_of before xs ≡ Some x → Among xs x
least-among before [] x e = cc e
least-among {X} before (y ∷ ys) x e = subst (Among (y ∷ ys)) (same_some e) (by_rest (least_of before ys) (least-among before ys))
  where
    same_some : {a b : X} → Some a ≡ Some b → a ≡ b
    same_some e = cc e

    pick : (b : Bool) (z : X) → Among ys z → Among (y ∷ ys) (if b then z else y)
    pick true z h = inr h
    pick false z h = inl refl

    by_rest : (o : Option X) → ((z : X) → o ≡ Some z → Among ys z) → Among (y ∷ ys) (lesser before y o)
    by_rest None h = inl refl
    by_rest (Some z) h = pick (before z y) z (h z refl)

-- nothing in the list is before its head
head-least : {X : Type 0} (before : X → X → Bool) (y : X) (ys : List X) → ((z : X) → Among ys z → before z y ≡ false) → least_of before (y ∷ ys) ≡ Some y
head-least {X} before y ys first = by_rest (least_of before ys) (λ z e. first z (least-among before ys z e))
  where
    by_rest : (o : Option X) → ((z : X) → o ≡ Some z → before z y ≡ false) → Some (lesser before y o) ≡ Some y
    by_rest None h = refl
    by_rest (Some z) h = ap (λ b. Some (if b then z else y)) (h z refl)

-- an element before which none is, where of two others one is before the other
pub least-is :
    {X : Type 0} (before : X → X → Bool) → ((x y : X) → before x y ≡ false → before y x ≡ false → y ≡ x) → (xs : List X) (x : X)
    → Among xs x → ((y : X) → Among xs y → before y x ≡ false) → least_of before xs ≡ Some x
least-is before one [] x h first = absurd h
least-is before one (y ∷ ys) x (inl same) first =
    head-least before y ys (λ z h. ap (before z) same ∙ first z (inr h)) ∙ ap Some same
least-is {X} before one (y ∷ ys) x (inr rest) first =
    ap (λ o. Some (lesser before y o)) (least-is before one ys x rest (λ z h. first z (inr h))) ∙ by_test (before x y) refl
  where
    by_test : (b : Bool) → before x y ≡ b → Some (if b then x else y) ≡ Some x
    by_test true is = refl
    by_test false is = ap Some (one x y is (first y (inl refl)))

-- ---- the first of a queue

abbrev pub by_rank : Item → Item → Bool
by_rank x y = nat_lt x.rank y.rank

not_less : (m n : ℕ) → nat_le m n ≡ true → nat_lt n m ≡ false
not_less m n h = let le = leb-true m n h in grind arith

less : (m n : ℕ) → nat_le m n ≡ false → nat_lt n m ≡ true
less m n h = lt-ltb n m (leb-false m n h)

first-put : (x : Item) (ys : List Item) → first_of (put_by_rank x ys) ≡ Some (lesser by_rank x (first_of ys))
first-put x [] = refl
first-put x (y ∷ ys) = by_test (nat_le x.rank y.rank) refl
  where
    by_test : (b : Bool) → nat_le x.rank y.rank ≡ b → first_of (if b then x ∷ y ∷ ys else y ∷ put_by_rank x ys) ≡ Some (if nat_lt y.rank x.rank then y else x)
    by_test true is = ap (λ b. Some (if b then y else x)) (sym (not_less x.rank y.rank is))
    by_test false is = ap (λ b. Some (if b then y else x)) (sym (less x.rank y.rank is))

-- the first of the items by rank is the first of those with the least rank
pub first-is_least : (xs : List Item) → first_of (in_rank_order xs) ≡ least_of by_rank xs
first-is_least [] = refl
first-is_least (x ∷ xs) = first-put x (in_rank_order xs) ∙ ap (λ o. Some (lesser by_rank x o)) (first-is_least xs)

-- ---- among adds whose ordinals rise

abbrev pub Rising : List Add → Type 0
Rising [] = ⊤
Rising (x ∷ xs) = AllByRecursion (λ y. x.ordinal < y.ordinal) xs × Rising xs

pub all-filter : {X : Type 0} (P : X → Type 0) (p : X → Bool) (xs : List X) → AllByRecursion P xs → AllByRecursion P (filter p xs)
all-filter P p [] all = tt
all-filter {X} P p (x ∷ xs) all = by_test (p x) (all-filter P p xs all.1)
  where
    by_test : (b : Bool) → AllByRecursion P (filter p xs) → AllByRecursion P (cond b (x ∷ filter p xs) (filter p xs))
    by_test true rest = (all.0, rest)
    by_test false rest = rest

pub rising-filter : (p : Add → Bool) (xs : List Add) → Rising xs → Rising (filter p xs)
rising-filter p [] rising = tt
rising-filter p (x ∷ xs) rising =
    by_test (p x) (all-filter (λ y. x.ordinal < y.ordinal) p xs rising.0) (rising-filter p xs rising.1)
  where
    by_test : (b : Bool) → AllByRecursion (λ y. x.ordinal < y.ordinal) (filter p xs) → Rising (filter p xs) → Rising (cond b (x ∷ filter p xs) (filter p xs))
    by_test true above rest = (above, rest)
    by_test false above rest = rest

-- the add before which none goes by rank and ordinal has the first item of the least rank
pub least-add :
    (xs : List Add) (x : Add) → Rising xs → Among xs x → ((y : Add) → Among xs y → is_lt (queue_order y x) ≡ false)
    → least_of by_rank (map (λ a. a.item) xs) ≡ Some x.item
least-add [] x rising h first = absurd h
least-add (y ∷ ys) x rising (inl same) first =
    head-least by_rank y.item (map (λ a. a.item) ys) later ∙ ap (λ a. Some a.item) same
  where
    later : (i : Item) → Among (map (λ a. a.item) ys) i → by_rank i y.item ≡ false
    later i h = at_add (from-map (λ a. a.item) ys i h)
      where
        at_add : (z : Add) × Among ys z × (z.item ≡ i) → by_rank i y.item ≡ false
        at_add (z, among, is) =
            ap (λ (i : Item). by_rank i y.item) (sym is) ∙ ap (λ (a : Add). by_rank z.item a.item) same ∙ rank_not_less z x (first z (inr among))
least-add (y ∷ ys) x rising (inr rest) first =
    ap (λ o. Some (lesser by_rank y.item o)) (least-add ys x rising.1 rest (λ z h. first z (inr h)))
    ∙ ap (λ b. Some (if b then x.item else y.item))
    (rank_greater y x (all_among (λ z. y.ordinal < z.ordinal) ys x rising.0 rest) (first y (inl refl)))
