-- The adds that wait, and their ordinals.
use Rattle.std.proofs.Common.{◌≡◌, ℕ, zero, suc, ◌+◌, ◌<◌, ◌↔◌, ◌⊎◌, inl, inr, Bool, true, false, ◌&&◌, List, [], ◌∷◌, map, length, refl, sym, ◌∙◌, ap, arith, ◌==◌, Option, Some, None, Contains, AllPairs, eqb-true, eq-eqb}
use Rattle.std.specs.Prelude.{flat_map, option_map, unwrap_or, slice_index, if◌then◌else◌}
use Rattle.std.specs.List.{AllByRecursion}
use Rattle.std.specs.Option.{option_or}
use Rattle.std.proofs.lemmas.List.Elements.{recursion_from_All}
use Rattle.std.proofs.lemmas.List.Kept.{AllPairs-from_increasing}
use Rattle.std.proofs.lemmas.Slice.Eq.{bytes_eq-Decides}
use Rattle.crawl_kinds.specs.declared.event.Event.{Event}
use Rattle.crawl_kinds.specs.declared.item.Item.{Item}
use Rattle.crawl_kinds.specs.Event.{adds_of}
use Rattle.crawl_history.specs.History.{History, history_of}
use Rattle.crawl_history.specs.Places.{place_of, is_waiting, has_key}
use Rattle.crawl_history.specs.Queues.{Add, all_adds, adds_from, ordinal_at, ordinal_of, is_waiting_add, waiting_adds}
use Rattle.crawl_history.specs.Scans.{last_of}
use Rattle.emission_laws.specs.Choice.{add_at, OrdinalsRise}
use Rattle.emission_laws.proofs.Choosing.{Rising}
use Rattle.emission_laws.proofs.Members.{Among, from_contains, to_contains, among-filter, from-filter, all_among}

-- ---- ordinals that rise

unmapped : (n : ℕ) (xs : List Add) → AllByRecursion (λ m. n < m) (map (λ x. x.ordinal) xs) → AllByRecursion (λ x. n < x.ordinal) xs
unmapped n [] all = tt
unmapped n (x ∷ xs) all = (all.0, unmapped n xs all.1)

rising-pairs : (xs : List Add) → AllPairs (λ m n. m < n) (map (λ x. x.ordinal) xs) → Rising xs
rising-pairs [] pairs = tt
rising-pairs (x ∷ xs) pairs = (
  unmapped x.ordinal xs (recursion_from_All (λ m. x.ordinal < m) (map (λ x. x.ordinal) xs) (λ k d within. pairs 0 (suc k) d (omega arith) (omega arith))),
  rising-pairs xs (λ i j d less within. pairs (suc i) (suc j) d (omega arith) (omega arith)),
)

pub rising : (h : History) → OrdinalsRise h → Rising (all_adds h)
rising h rise = rising-pairs (all_adds h) (AllPairs-from_increasing (map (λ x. x.ordinal) (all_adds h)) rise)

-- an ordinal stands once
rising-same : (xs : List Add) (x y : Add) → Rising xs → Among xs x → Among xs y → x.ordinal ≡ y.ordinal → y ≡ x
rising-same [] x y rising one other same = absurd one
rising-same (z ∷ zs) x y rising (inl e) (inl g) same = sym g ∙ e
rising-same (z ∷ zs) x y rising (inl e) (inr there) same =
    let above = all_among (λ w. z.ordinal < w.ordinal) zs y rising.0 there in
    let at = ap (λ (w : Add). w.ordinal) e in
    absurd (omega (arith, above, at, same))
rising-same (z ∷ zs) x y rising (inr there) (inl g) same =
    let above = all_among (λ w. z.ordinal < w.ordinal) zs x rising.0 there in
    let at = ap (λ (w : Add). w.ordinal) g in
    absurd (omega (arith, above, at, same))
rising-same (z ∷ zs) x y rising (inr one) (inr other) same = rising-same zs x y rising.1 one other same

-- ---- the ordinals of a history from the start

length-adds_from : (n : ℕ) (xs : List Item) → length (map (λ x. x.ordinal) (adds_from n xs)) ≡ length xs
length-adds_from n [] = refl
length-adds_from n (x ∷ xs) = ap suc (length-adds_from (n + 1) xs)

ordinal-adds_from : (n : ℕ) (xs : List Item) (k : ℕ) → k < length xs → slice_index (map (λ x. x.ordinal) (adds_from n xs)) k ≡ n + k
ordinal-adds_from n [] k within = absurd (omega arith)
ordinal-adds_from n (x ∷ xs) zero within = omega arith
ordinal-adds_from n (x ∷ xs) (suc k) within = ordinal-adds_from (n + 1) xs k (omega arith) ∙ shift n k
  where
    shift : (n k : ℕ) → (n + 1) + k ≡ n + suc k
    shift n k = omega arith

pub ordinals-rise : (events : List Event) → OrdinalsRise (history_of events)
ordinals-rise events k within =
    let long = length-adds_from 1 (flat_map adds_of events) in
    let here = ordinal-adds_from 1 (flat_map adds_of events) k (omega (arith, within, long)) in
    let next = ordinal-adds_from 1 (flat_map adds_of events) (k + 1) (omega (arith, within, long)) in
    omega (arith, here, next)

-- ---- the last add of a key

last-ordinal : (key : List ℕ) (xs : List Add) → last_of (ordinal_at key) xs ≡ option_map (λ x. x.ordinal) (last_of (add_at key) xs)
last-ordinal key [] = refl
last-ordinal key (x ∷ xs) =
    ap (λ o. option_or o (ordinal_at key x)) (last-ordinal key xs) ∙ by_last (last_of (add_at key) xs) (has_key key x.item)
  where
    by_last :
        (o : Option Add) (b : Bool)
        → option_or (option_map (λ x. x.ordinal) o) (if b then Some x.ordinal else None) ≡ option_map (λ x. x.ordinal) (option_or o (if b then Some x else None))
    by_last (Some y) b = refl
    by_last None true = refl
    by_last None false = refl

last-among : (key : List ℕ) (xs : List Add) (x : Add) → last_of (add_at key) xs ≡ Some x → Among xs x
last-among key [] x e = cc e
last-among key (y ∷ ys) x e = by_last (last_of (add_at key) ys) (has_key key y.item) e (last-among key ys x)
  where
    by_last : (o : Option Add) (b : Bool) → option_or o (if b then Some y else None) ≡ Some x → (o ≡ Some x → Among ys x) → (y ≡ x) ⊎ Among ys x
    by_last (Some z) b e more = inr (more e)
    by_last None true e more = inl (cc e)
    by_last None false e more = cc e

last-some : (key : List ℕ) (xs : List Add) (x : Add) → Among xs x → has_key key x.item ≡ true → (y : Add) × (last_of (add_at key) xs ≡ Some y)
last-some key [] x h has = absurd h
last-some key (z ∷ zs) x h has = by_last (last_of (add_at key) zs) (has_key key z.item) refl h (λ rest. last-some key zs x rest has)
  where
    by_last :
        (o : Option Add) (b : Bool) → has_key key z.item ≡ b → (z ≡ x) ⊎ Among zs x → (Among zs x → (y : Add) × (o ≡ Some y))
        → (y : Add) × (option_or o (if b then Some z else None) ≡ Some y)
    by_last (Some y) b is h more = (y, refl)
    by_last None true is h more = (z, refl)
    by_last None false is (inl same) more = let e = ap (λ (w : Add). has_key key w.item) same in cc
    by_last None false is (inr rest) more = more rest

-- ---- an add waits exactly where its key does and was last added with it

module _ (h : History) (x : Add) (rise : OrdinalsRise h) where
  ordinal-last : (y : Add) → last_of (add_at x.item.key) (all_adds h) ≡ Some y → ordinal_of h x.item.key ≡ y.ordinal
  ordinal-last y last = ap (λ o. unwrap_or o 0) (last-ordinal x.item.key (all_adds h) ∙ ap (option_map (λ x. x.ordinal)) last)

  waits-to : Contains (waiting_adds h) x → (is_waiting (place_of h x.item.key) ≡ true) × (last_of (add_at x.item.key) (all_adds h) ≡ Some x)
  waits-to contains = by_parts (from-filter (is_waiting_add h) (all_adds h) x (from_contains (waiting_adds h) x contains))
    where
      by_last :
          Among (all_adds h) x → (x.ordinal == ordinal_of h x.item.key) ≡ true
          → (y : Add) × (last_of (add_at x.item.key) (all_adds h) ≡ Some y) → last_of (add_at x.item.key) (all_adds h) ≡ Some x
      by_last among same (y, last) =
          last
          ∙ ap Some
          (rising-same (all_adds h) x y (rising h rise) among (last-among x.item.key (all_adds h) y last) (eqb-true x.ordinal (ordinal_of h x.item.key) same ∙ ordinal-last y last))

      by_tests :
          (b c : Bool) → (b && c) ≡ true → (c ≡ true → last_of (add_at x.item.key) (all_adds h) ≡ Some x)
          → (b ≡ true) × (last_of (add_at x.item.key) (all_adds h) ≡ Some x)
      by_tests true c e last = (refl, last e)
      by_tests false c e last = cc e

      by_parts : Among (all_adds h) x × (is_waiting_add h x ≡ true) → (is_waiting (place_of h x.item.key) ≡ true) × (last_of (add_at x.item.key) (all_adds h) ≡ Some x)
      by_parts (among, waiting) =
          by_tests (is_waiting (place_of h x.item.key)) (x.ordinal == ordinal_of h x.item.key) waiting
          (λ same. by_last among same (last-some x.item.key (all_adds h) x among ((bytes_eq-Decides x.item.key x.item.key).1 refl)))

  waits-from : (is_waiting (place_of h x.item.key) ≡ true) × (last_of (add_at x.item.key) (all_adds h) ≡ Some x) → Contains (waiting_adds h) x
  waits-from (waits, last) =
      to_contains (waiting_adds h) x
      (among-filter (is_waiting_add h) (all_adds h) x (last-among x.item.key (all_adds h) x last)
      (ap (λ b. b && x.ordinal == ordinal_of h x.item.key) waits ∙ eq-eqb x.ordinal (ordinal_of h x.item.key) (sym (ordinal-last x last))))

  pub waits-where : Contains (waiting_adds h) x ↔ ((is_waiting (place_of h x.item.key) ≡ true) × (last_of (add_at x.item.key) (all_adds h) ≡ Some x))
  waits-where = (waits-to, waits-from)
