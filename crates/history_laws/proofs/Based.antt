-- In a history that goes on from a snapshot, the last ordinal of a key stands once among its adds.
use Rattle.std.proofs.Common.{◌≡◌, ℕ, ◌+◌, ◌≤◌, Bool, true, false, ◌&&◌, ◌||◌, cond, List, [], ◌∷◌, map, length, refl, sym, ◌∙◌, ap, subst, arith, zero-le, ◌==◌, Option, Some, None}
use Rattle.std.specs.Prelude.{filter, flat_map, unwrap_or, if◌then◌else◌}
use Rattle.std.specs.List.{list_any, AllByRecursion}
use Rattle.std.specs.Option.{option_or}
use Rattle.std.proofs.lemmas.Grind.{common_steps}
use Rattle.std.proofs.lemmas.List.Folds.{list_any-append}
use Rattle.crawl_kinds.specs.declared.snapshot.KeyWaits.{KeyWaits}
use Rattle.crawl_kinds.specs.Event.{adds_of}
use Rattle.crawl_history.specs.Scans.{last_of}
use Rattle.crawl_history.specs.History.{History}
use Rattle.crawl_history.specs.Places.{has_key}
use Rattle.crawl_history.specs.Queues.{Add, all_adds, adds_from, has_add, ordinal_at, ordinal_of}
use Rattle.history_steps.specs.ScansStep.{one_if}
use Rattle.history_steps.proofs.Lists.{last_of-append}
use Rattle.history_laws.specs.Laws.{WaitsOnce}
use Rattle.history_laws.proofs.Counting.{number, number-cons, number-append}
use Rattle.history_laws.proofs.Keeping.{number-map}
use Rattle.history_laws.proofs.Lists.{all-map}
use Rattle.history_laws.proofs.Ordinals.{has_ordinal, last_ordinal, last_ordinal-once, last_ordinal-any, number-no_add}

-- the waiting items of a snapshot, as adds
abbrev pub as_add : KeyWaits → Add
as_add w = record { ordinal = w.ordinal; item = w.item }

pub number-both-≤ : {X : Type 0} (p q : X → Bool) (xs : List X) → number (λ x. p x && q x) xs ≤ number p xs
number-both-≤ p q [] = zero-le
number-both-≤ {X} p q (x ∷ xs) = by_test (p x) (q x) (number-both-≤ p q xs)
  where
    by_test : (b c : Bool) → number (λ x. p x && q x) xs ≤ number p xs → length (cond (b && c) (x ∷ filter (λ x. p x && q x) xs) (filter (λ x. p x && q x) xs)) ≤ length (cond b (x ∷ filter p xs) (filter p xs))
    by_test true true rest = omega (arith, rest)
    by_test true false rest = omega (arith, rest)
    by_test false c rest = rest

number-any : {X : Type 0} (p : X → Bool) (xs : List X) → list_any p xs ≡ true → 1 ≤ number p xs
number-any p [] any = cc any
number-any {X} p (x ∷ xs) any = by_test (p x) any (number-any p xs)
  where
    by_test : (b : Bool) → (b || list_any p xs) ≡ true → (list_any p xs ≡ true → 1 ≤ number p xs) → 1 ≤ length (cond b (x ∷ filter p xs) (filter p xs))
    by_test true any rest = omega arith
    by_test false any rest = rest any

-- no add has an ordinal that was not given
number-above : (key : List ℕ) (n o : ℕ) (xs : List Add) → n + 1 ≤ o → AllByRecursion (λ a. a.ordinal ≤ n) xs → number (has_ordinal key o) xs ≡ 0
number-above key n o [] above all = refl
number-above key n o (a ∷ xs) above all =
    number-cons (has_ordinal key o) a xs
    ∙ ap (λ b. one_if (has_key key a.item && b) + number (has_ordinal key o) xs) (apart a.ordinal n o all.0 above)
    ∙ by_key (has_key key a.item)
    ∙ number-above key n o xs above all.1
  where
    apart : (m n o : ℕ) → m ≤ n → n + 1 ≤ o → (m == o) ≡ false
    apart m n o h g = grind (arith, common_steps)

    by_key : (b : Bool) → one_if (b && false) + number (has_ordinal key o) xs ≡ number (has_ordinal key o) xs
    by_key true = omega arith
    by_key false = omega arith

pub record FoundOnce (key : List ℕ) (xs : List Add) (o : ℕ) : Type 0 where
  pub last : last_of (ordinal_at key) xs ≡ Some o
  pub once : number (has_ordinal key o) xs ≡ 1

-- a key that stands once among adds stands there once under its ordinal
found-once : (key : List ℕ) (xs : List Add) → list_any (λ a. has_key key a.item) xs ≡ true → number (λ a. has_key key a.item) xs ≤ 1 → (o : ℕ) × FoundOnce key xs o
found-once key [] any most = cc any
found-once key (a ∷ xs) any most =
    by_key (has_key key a.item) refl any (subst (λ n. n ≤ 1) (number-cons (λ a. has_key key a.item) a xs) most) (found-once key xs) (list_any (λ a. has_key key a.item) xs) refl
  where
    same : (n : ℕ) → (n == n) ≡ true
    same n = grind (arith, common_steps)

    none-last : (xs : List Add) → number (λ a. has_key key a.item) xs ≡ 0 → last_of (ordinal_at key) xs ≡ None
    none-last [] none = refl
    none-last (a ∷ xs) none = by_head (has_key key a.item) (sym (number-cons (λ a. has_key key a.item) a xs) ∙ none) (none-last xs)
      where
        by_head :
            (b : Bool) → one_if b + number (λ a. has_key key a.item) xs ≡ 0 → (number (λ a. has_key key a.item) xs ≡ 0 → last_of (ordinal_at key) xs ≡ None)
            → option_or (last_of (ordinal_at key) xs) (if b then Some a.ordinal else None) ≡ None
        by_head true none rest = absurd (more none)
          where
            more : 1 + number (λ a. has_key key a.item) xs ≡ 0 → ⊥
            more none = omega (arith, none)
        by_head false none rest = ap (λ o. option_or o None) (rest (omega (arith, none)))

    by_key :
        (b : Bool) → has_key key a.item ≡ b → (b || list_any (λ a. has_key key a.item) xs) ≡ true → one_if b + number (λ a. has_key key a.item) xs ≤ 1
        → (list_any (λ a. has_key key a.item) xs ≡ true → number (λ a. has_key key a.item) xs ≤ 1 → (o : ℕ) × FoundOnce key xs o)
        → (m : Bool) → list_any (λ a. has_key key a.item) xs ≡ m
        → (o : ℕ) × FoundOnce key (a ∷ xs) o
    by_key true at any most rest m later =
        let none : number (λ a. has_key key a.item) xs ≡ 0 = omega (arith, most) in
        let fewer = number-both-≤ (λ a. has_key key a.item) (λ b. b.ordinal == a.ordinal) xs in (
          a.ordinal,
          record {
            last = ap (λ o. option_or o (if has_key key a.item then Some a.ordinal else None)) (none-last xs none) ∙ ap (λ b. if b then Some a.ordinal else None) at;
            once =
                number-cons (has_ordinal key a.ordinal) a xs
                ∙ ap (λ b. one_if (b && a.ordinal == a.ordinal) + number (has_ordinal key a.ordinal) xs) at
                ∙ ap (λ b. one_if b + number (has_ordinal key a.ordinal) xs) (same a.ordinal)
                ∙ ap (λ n. 1 + n) (nothing _ _ fewer none);
          },
        )
      where
        nothing : (n m : ℕ) → n ≤ m → m ≡ 0 → n ≡ 0
        nothing n m h e = omega (arith, h, e)
    by_key false at any most rest m later =
        let there = rest any (omega (arith, most)) in (
          there.0,
          record {
            last = ap (λ o. option_or o (if has_key key a.item then Some a.ordinal else None)) there.1.last;
            once =
                number-cons (has_ordinal key there.0) a xs
                ∙ ap (λ b. one_if (b && a.ordinal == there.0) + number (has_ordinal key there.0) xs) at
                ∙ ap (λ n. 0 + n) there.1.once;
          },
        )

-- the last ordinal of a key that was added stands once among all adds
pub ordinal_of-once : (h : History) (key : List ℕ) → WaitsOnce h.base → has_add h key ≡ true → number (has_ordinal key (ordinal_of h key)) (all_adds h) ≡ 1
ordinal_of-once h key sound any =
    ap (λ o. number (has_ordinal key (unwrap_or o 0)) (all_adds h)) (last_of-append (ordinal_at key) old new)
    ∙ by_new (last_ordinal key (h.base.ordinals + 1) (flat_map adds_of h.events)) refl
  where
    old : List Add
    old = map as_add h.base.waiting

    new : List Add
    new = adds_from (h.base.ordinals + 1) (flat_map adds_of h.events)

    few : number (λ a. has_key key a.item) old ≤ 1
    few = subst (λ n. n ≤ 1) (sym (number-map (λ a. has_key key a.item) as_add h.base.waiting)) (sound.keys key)

    given : AllByRecursion (λ a. a.ordinal ≤ h.base.ordinals) old
    given = all-map (λ a. a.ordinal ≤ h.base.ordinals) as_add h.base.waiting sound.ordinals

    by_new : (o : Option ℕ) → last_of (ordinal_at key) new ≡ o → number (has_ordinal key (unwrap_or (option_or (last_of (ordinal_at key) new) (last_of (ordinal_at key) old)) 0)) (all_adds h) ≡ 1
    by_new (Some o) is =
        let there = last_ordinal-once key (h.base.ordinals + 1) (flat_map adds_of h.events) o is in
        ap (λ p. number (has_ordinal key (unwrap_or (option_or p (last_of (ordinal_at key) old)) 0)) (all_adds h)) is
        ∙ number-append (has_ordinal key o) old new
        ∙ ap (λ n. n + number (has_ordinal key o) new) (number-above key h.base.ordinals o old there.above given)
        ∙ ap (λ n. 0 + n) there.once
    by_new None is =
        let there = found-once key old (in_old (list_any (λ a. has_key key a.item) new) refl (sym (list_any-append (λ a. has_key key a.item) old new) ∙ any)) few in
        ap (λ p. number (has_ordinal key (unwrap_or (option_or p (last_of (ordinal_at key) old)) 0)) (all_adds h)) is
        ∙ ap (λ p. number (has_ordinal key (unwrap_or p 0)) (all_adds h)) there.1.last
        ∙ number-append (has_ordinal key there.0) old new
        ∙ ap (λ n. n + number (has_ordinal key there.0) new) there.1.once
        ∙ ap (λ n. 1 + n) (number-no_add key (h.base.ordinals + 1) (flat_map adds_of h.events) (λ a. a.ordinal == there.0) is)
      where
        right_true : (b c : Bool) → c ≡ false → (b || c) ≡ true → b ≡ true
        right_true true c no_more e = refl
        right_true false c no_more e = sym no_more ∙ e

        some_none : (o : ℕ) → None ≡ Some o → ⊥
        some_none o e = cc e

        in_old : (m : Bool) → list_any (λ a. has_key key a.item) new ≡ m → (list_any (λ a. has_key key a.item) old || list_any (λ a. has_key key a.item) new) ≡ true → list_any (λ a. has_key key a.item) old ≡ true
        in_old true m any =
            let last = last_ordinal-any key (h.base.ordinals + 1) (flat_map adds_of h.events) m in
            absurd (some_none last.0 (sym is ∙ last.1))
        in_old false m any = right_true _ _ m any
