-- How many keys are known: as many as are kept.
use Rattle.std.proofs.Common.{◌≡◌, ℕ, ◌+◌, Bool, true, false, ◌||◌, not, cond, List, [], ◌∷◌, ◌++◌, map, length, refl, sym, ◌∙◌, ap, subst, Option, Some, None, arith}
use Rattle.std.specs.Prelude.{◌&&◌, is_some, unwrap_or, bytes_eq, filter, flat_map, filter_map, count_by, IfSome, if◌then◌else◌}
use Rattle.std.specs.List.{list_any, AllByRecursion, IsDistinct, cons_option}
use Rattle.std.specs.Option.{option_or}
use Rattle.std.specs.Ordering.{nat_cmp, eq_by_cmp}
use Rattle.std.specs.Cmp.{IsEquivalence, eq_by_cmp_equiv}
use Rattle.std.specs.Cmp.Lexicographic.{slice_cmp}
use Rattle.std.specs.BTreeMap.{keys, btree_map_len, IsOrdered}
use Rattle.std.proofs.lemmas.Cmp.{nat_list_cmp_total}
use Rattle.std.proofs.lemmas.List.{map-append, append_assoc, append-nil, length-append, length-map}
use Rattle.std.proofs.lemmas.List.Elements.{filter-append}
use Rattle.std.proofs.lemmas.List.Folds.{list_any-append}
use Rattle.std.proofs.lemmas.List.Sums.{length-filter}
use Rattle.std.proofs.lemmas.Map.Entries.{length-keys_of}
use Rattle.std.proofs.lemmas.Map.Keys.{IsDistinct-from_sorted, IsDistinct-head, IsDistinct-tail, IsDistinct-cons, IsDistinct-push, IsDistinct-from_apart}
use Rattle.std.proofs.lemmas.Map.Made.{is_some-lookup, length-from_same_keys}
use Rattle.std.proofs.lemmas.Map.Steps.{list_any_congr}
use Rattle.std.proofs.lemmas.Map.Text.{is_eq-slice_cmp}
use Rattle.std.proofs.lemmas.Map.Views.{any-filter_same}
use Rattle.std.proofs.lemmas.Slice.Eq.{bytes_eq-Decides}
use Rattle.crawl_kinds.specs.declared.event.Event.{Event}
use Rattle.crawl_kinds.specs.declared.event.Outcome.{Outcome}
use Rattle.crawl_kinds.specs.declared.event.Outcome.TheVariants.{Success, Failure, Disregard, Retry}
use Rattle.crawl_kinds.specs.declared.event.End.{End}
use Rattle.crawl_kinds.specs.declared.event.Place.{Place}
use Rattle.crawl_kinds.specs.declared.event.Place.TheVariants.{Absent, Waiting, Done}
use Rattle.crawl_kinds.specs.declared.item.Item.{Item}
use Rattle.crawl_kinds.specs.Event.{adds_of, finish_of, Finishing}
use Rattle.crawl_history.specs.Scans.{last_of, distinct_from}
use Rattle.crawl_history.specs.History.{history_of}
use Rattle.crawl_history.specs.Places as history
use Rattle.crawl_history.specs.Places.{has_key, adds_key, finishes_key, is_finish_of, names_key, place_by_finish, place_after, is_absent, is_waiting, known_keys}
use Rattle.frontier_memo.specs.declared.known.Known.{Known}
use Rattle.frontier_memo.specs.declared.known.Known.TheVariants as known
use Rattle.frontier_memo.specs.declared.memo.Memo.{Memo}
use Rattle.frontier_memo.specs.Keeping.{known_at, place_by, are_free}
use Rattle.frontier_memo.specs.Memory.{Remembers}
use Rattle.frontier_memo.proofs.Lists.{any-map}

-- ---- equal texts

by_order : IsEquivalence (eq_by_cmp (slice_cmp nat_cmp))
by_order = eq_by_cmp_equiv nat_list_cmp_total

pub bytes_laws : IsEquivalence bytes_eq
bytes_laws = record {
  refl = λ x. sym (is_eq-slice_cmp x x) ∙ by_order.refl x;
  symm = λ x y. sym (is_eq-slice_cmp x y) ∙ by_order.symm x y ∙ is_eq-slice_cmp y x;
  congr = λ x y z h. sym (is_eq-slice_cmp x z) ∙ by_order.congr x y z (is_eq-slice_cmp x y ∙ h) ∙ is_eq-slice_cmp y z;
}

pub any-same : {X : Type 0} (p q : X → Bool) → ((x : X) → p x ≡ q x) → (xs : List X) → list_any p xs ≡ list_any q xs
any-same p q h [] = refl
any-same p q h (x ∷ xs) = ap (λ b. b || list_any p xs) (h x) ∙ ap (λ b. q x || b) (any-same p q h xs)

-- ---- each once

or_right : (a b : Bool) → (a || b) ≡ false → b ≡ false
or_right true b h = cc
or_right false b h = h

or_left : (a b : Bool) → (a || b) ≡ false → a ≡ false
or_left true b h = h
or_left false b h = refl

all_with : {X : Type 0} (P Q : X → Type 0) → ((x : X) → P x → Q x) → (xs : List X) → AllByRecursion P xs → AllByRecursion Q xs
all_with P Q w [] a = tt
all_with P Q w (x ∷ xs) a = (w x a.0, all_with P Q w xs a.1)

-- none of those that are left was seen
unseen : (seen xs : List (List ℕ)) → AllByRecursion (λ y. list_any (bytes_eq y) seen ≡ false) (distinct_from bytes_eq seen xs)
unseen seen [] = tt
unseen seen (x ∷ xs) = by_test (list_any (bytes_eq x) seen) refl (unseen seen xs) (unseen (x ∷ seen) xs)
  where
    by_test :
        (b : Bool) → list_any (bytes_eq x) seen ≡ b
        → AllByRecursion (λ y. list_any (bytes_eq y) seen ≡ false) (distinct_from bytes_eq seen xs)
        → AllByRecursion (λ y. list_any (bytes_eq y) (x ∷ seen) ≡ false) (distinct_from bytes_eq (x ∷ seen) xs)
        → AllByRecursion (λ y. list_any (bytes_eq y) seen ≡ false) (if b then distinct_from bytes_eq seen xs else x ∷ distinct_from bytes_eq (x ∷ seen) xs)
    by_test true is skipped more = skipped
    by_test false is skipped more = (is, all_with _ _ (λ y h. or_right (bytes_eq y x) _ h) _ more)

are_distinct : (seen xs : List (List ℕ)) → IsDistinct bytes_eq (distinct_from bytes_eq seen xs)
are_distinct seen [] = IsDistinct-from_apart bytes_eq [] (λ i j d lt le. absurd (omega arith))
are_distinct seen (x ∷ xs) = by_test (list_any (bytes_eq x) seen) (are_distinct seen xs) (are_distinct (x ∷ seen) xs)
  where
    by_test :
        (b : Bool) → IsDistinct bytes_eq (distinct_from bytes_eq seen xs) → IsDistinct bytes_eq (distinct_from bytes_eq (x ∷ seen) xs)
        → IsDistinct bytes_eq (if b then distinct_from bytes_eq seen xs else x ∷ distinct_from bytes_eq (x ∷ seen) xs)
    by_test true skipped more = skipped
    by_test false skipped more =
        IsDistinct-cons bytes_eq x _ (all_with _ _ (λ y h. bytes_laws.symm x y ∙ or_left (bytes_eq y x) _ h) _ (unseen (x ∷ seen) xs)) more

-- the same texts are among them
same_members :
    (q : List ℕ) (seen xs : List (List ℕ))
    → (list_any (bytes_eq q) seen || list_any (bytes_eq q) (distinct_from bytes_eq seen xs)) ≡ (list_any (bytes_eq q) seen || list_any (bytes_eq q) xs)
same_members q seen [] = refl
same_members q seen (x ∷ xs) = by_test (list_any (bytes_eq x) seen) refl (same_members q seen xs) (same_members q (x ∷ seen) xs)
  where
    -- q is like x, which was seen
    by_like : (b s d r : Bool) → (b ≡ true → s ≡ true) → (s || d) ≡ (s || r) → (s || d) ≡ (s || (b || r))
    by_like b true d r h e = refl
    by_like true false d r h e = let clash : false ≡ true = h refl in cc
    by_like false false d r h e = e

    swap : (b s d r : Bool) → ((b || s) || d) ≡ ((b || s) || r) → (s || (b || d)) ≡ (s || (b || r))
    swap true true d r e = refl
    swap true false d r e = refl
    swap false true d r e = refl
    swap false false d r e = e

    by_test :
        (b : Bool) → list_any (bytes_eq x) seen ≡ b
        → (list_any (bytes_eq q) seen || list_any (bytes_eq q) (distinct_from bytes_eq seen xs)) ≡ (list_any (bytes_eq q) seen || list_any (bytes_eq q) xs)
        → (list_any (bytes_eq q) (x ∷ seen) || list_any (bytes_eq q) (distinct_from bytes_eq (x ∷ seen) xs)) ≡ (list_any (bytes_eq q) (x ∷ seen) || list_any (bytes_eq q) xs)
        → (list_any (bytes_eq q) seen || list_any (bytes_eq q) (if b then distinct_from bytes_eq seen xs else x ∷ distinct_from bytes_eq (x ∷ seen) xs))
        ≡ (list_any (bytes_eq q) seen || list_any (bytes_eq q) (x ∷ xs))
    by_test true is skipped more =
        by_like (bytes_eq q x) (list_any (bytes_eq q) seen) _ _ (λ like. list_any_congr bytes_laws q x seen like ∙ is) skipped
    by_test false is skipped more = swap (bytes_eq q x) (list_any (bytes_eq q) seen) _ _ more

-- ---- the keys that events name

any-or : {X : Type 0} (p q : X → Bool) (xs : List X) → list_any (λ x. p x || q x) xs ≡ (list_any p xs || list_any q xs)
any-or p q [] = refl
any-or p q (x ∷ xs) = ap (λ b. (p x || q x) || b) (any-or p q xs) ∙ swap (p x) (q x) (list_any p xs) (list_any q xs)
  where
    swap : (a b c d : Bool) → ((a || b) || (c || d)) ≡ ((a || c) || (b || d))
    swap true b c d = refl
    swap false true true d = refl
    swap false true false d = refl
    swap false false true d = refl
    swap false false false d = refl

any-adds : (q : List ℕ) (es : List Event) → list_any (bytes_eq q) (map (λ i. i.key) (flat_map adds_of es)) ≡ list_any (adds_key q) es
any-adds q [] = refl
any-adds q (e ∷ es) =
    ap (list_any (bytes_eq q)) (map-append (λ (i : Item). i.key) (adds_of e) (flat_map adds_of es))
    ∙ list_any-append (bytes_eq q) (map (λ i. i.key) (adds_of e)) (map (λ i. i.key) (flat_map adds_of es))
    ∙ ap (λ b. b || list_any (bytes_eq q) (map (λ i. i.key) (flat_map adds_of es))) (any-map (λ (i : Item). i.key) (bytes_eq q) (adds_of e) ∙ any-same _ (has_key q) (λ i. bytes_laws.symm q i.key) (adds_of e))
    ∙ ap (λ b. adds_key q e || b) (any-adds q es)

any-ends : (q : List ℕ) (es : List Event) → list_any (bytes_eq q) (map (λ c. c.item.key) (filter_map finish_of es)) ≡ list_any (finishes_key q) es
any-ends q [] = refl
any-ends q (e ∷ es) = by_finish (finish_of e) ∙ ap (λ b. finishes_key q e || b) (any-ends q es)
  where
    by_finish :
        (o : Option Finishing) → list_any (bytes_eq q) (map (λ c. c.item.key) (cons_option o (filter_map finish_of es)))
        ≡ (is_finish_of q o || list_any (bytes_eq q) (map (λ c. c.item.key) (filter_map finish_of es)))
    by_finish None = refl
    by_finish (Some c) = ap (λ b. b || list_any (bytes_eq q) (map (λ c. c.item.key) (filter_map finish_of es))) (bytes_laws.symm q c.item.key)

known_is_named : (q : List ℕ) (es : List Event) → list_any (bytes_eq q) (known_keys (history_of es)) ≡ list_any (names_key q) es
known_is_named q es =
    same_members q [] (map (λ i. i.key) (flat_map adds_of es) ++ map (λ c. c.item.key) (filter_map finish_of es))
    ∙ list_any-append (bytes_eq q) (map (λ i. i.key) (flat_map adds_of es)) (map (λ c. c.item.key) (filter_map finish_of es))
    ∙ ap (λ b. b || list_any (bytes_eq q) (map (λ c. c.item.key) (filter_map finish_of es))) (any-adds q es)
    ∙ ap (λ b. list_any (adds_key q) es || b) (any-ends q es)
    ∙ sym (any-or (adds_key q) (finishes_key q) es)

-- what an event says of a key, and that it is somewhere
says : (q : List ℕ) (e : Event) → is_some (history.place_by q e) ≡ names_key q e
says q e = by_cases (adds_key q e) (finish_of e)
  where
    by_key : (b : Bool) (p : Place) → is_some (if b then Some p else None) ≡ b
    by_key true p = refl
    by_key false p = refl

    by_cases : (b : Bool) (o : Option Finishing) → is_some (if b then Some Waiting else place_by_finish q o) ≡ (b || is_finish_of q o)
    by_cases true o = refl
    by_cases false None = refl
    by_cases false (Some c) = by_key (has_key q c.item) (place_after c.end.outcome c.end)

last_says : (q : List ℕ) (es : List Event) → is_some (last_of (history.place_by q) es) ≡ list_any (names_key q) es
last_says q [] = refl
last_says q (e ∷ es) =
    by_last (last_of (history.place_by q) es) (history.place_by q e)
    ∙ ap (λ b. b || is_some (last_of (history.place_by q) es)) (says q e) ∙ ap (λ b. names_key q e || b) (last_says q es)
  where
    by_last : (o p : Option Place) → is_some (option_or o p) ≡ (is_some p || is_some o)
    by_last None None = refl
    by_last None (Some x) = refl
    by_last (Some y) None = refl
    by_last (Some y) (Some x) = refl

-- a place that an event says is somewhere
abbrev IsThere : Option Place → Type 0
IsThere None = Unit {0}
IsThere (Some p) = is_absent p ≡ false

there : (q : List ℕ) (e : Event) → IsThere (history.place_by q e)
there q e = by_cases (adds_key q e) (finish_of e)
  where
    by_outcome : (outcome : Outcome) (end : End) → is_absent (place_after outcome end) ≡ false
    by_outcome Success end = refl
    by_outcome Failure end = refl
    by_outcome Disregard end = refl
    by_outcome Retry end = refl

    by_key : (b : Bool) (c : Finishing) → IsThere (if b then Some (place_after c.end.outcome c.end) else None)
    by_key true c = by_outcome c.end.outcome c.end
    by_key false c = tt

    by_cases : (b : Bool) (o : Option Finishing) → IsThere (if b then Some Waiting else place_by_finish q o)
    by_cases true o = refl
    by_cases false None = tt
    by_cases false (Some c) = by_key (has_key q c.item) c

last_there : (q : List ℕ) (es : List Event) → IsThere (last_of (history.place_by q) es)
last_there q [] = tt
last_there q (e ∷ es) = by_last (last_of (history.place_by q) es) (last_there q es)
  where
    by_last : (o : Option Place) → IsThere o → IsThere (option_or o (history.place_by q e))
    by_last None h = there q e
    by_last (Some p) h = h

-- a key is somewhere just where an event names it
absent_unless_named : (q : List ℕ) (es : List Event) → is_absent (history.place_of (history_of es) q) ≡ not (list_any (names_key q) es)
absent_unless_named q es = by_last (last_of (history.place_by q) es) (last_there q es) ∙ ap not (last_says q es)
  where
    by_last : (o : Option Place) → IsThere o → is_absent (unwrap_or o Absent) ≡ not (is_some o)
    by_last None h = refl
    by_last (Some p) h = h

-- ---- what is kept

pub absent-place_by : (kept : Option Known) → is_absent (place_by kept) ≡ not (is_some kept)
absent-place_by None = refl
absent-place_by (Some (known.Waits w)) = refl
absent-place_by (Some (known.Done code)) = refl

not_both : (a b : Bool) → not a ≡ not b → a ≡ b
not_both true true h = refl
not_both true false h = cc
not_both false true h = cc
not_both false false h = refl

distinct_keys : (ks : List (List ℕ)) → IsDistinct (eq_by_cmp (slice_cmp nat_cmp)) ks → IsDistinct bytes_eq ks
distinct_keys [] h = IsDistinct-from_apart bytes_eq [] (λ i j d lt le. absurd (omega arith))
distinct_keys (k ∷ ks) h =
    IsDistinct-cons bytes_eq k ks (all_with _ _ (λ y e. sym (is_eq-slice_cmp k y) ∙ e) ks (IsDistinct-head _ k ks h)) (distinct_keys ks (IsDistinct-tail _ k ks h))

-- a key is known just where something is kept of it
pub known_kept : (es : List Event) (memo : Memo) → Remembers (history_of es) memo → (q : List ℕ) → list_any (bytes_eq q) (known_keys (history_of es)) ≡ is_some (known_at memo.places q)
known_kept es memo is q =
    known_is_named q es
    ∙ sym (not_both _ _ (sym (absent-place_by (known_at memo.places q)) ∙ ap is_absent (is.places q).place ∙ absent_unless_named q es))

-- as many keys are kept as are known
pub counted : (es : List Event) (memo : Memo) → Remembers (history_of es) memo → IsOrdered (slice_cmp nat_cmp) memo.places → btree_map_len memo.places ≡ length (known_keys (history_of es))
counted es memo is ordered =
    sym (length-keys_of memo.places.entries)
    ∙ length-from_same_keys bytes_laws (keys memo.places) (known_keys (history_of es)) (distinct_keys _ (IsDistinct-from_sorted (slice_cmp nat_cmp) (keys memo.places) ordered)) (are_distinct [] _) (λ q. kept q ∙ sym (known_kept es memo is q))
  where
    kept : (q : List ℕ) → list_any (bytes_eq q) (keys memo.places) ≡ is_some (known_at memo.places q)
    kept q = any-same _ _ (λ k. sym (is_eq-slice_cmp q k)) (keys memo.places) ∙ sym (is_some-lookup _ memo.places.entries)

-- ---- more keys

any-keys : (q : List ℕ) (items : List Item) → list_any (bytes_eq q) (map (λ i. i.key) items) ≡ list_any (has_key q) items
any-keys q items = any-map (λ (i : Item). i.key) (bytes_eq q) items ∙ any-same _ (has_key q) (λ i. bytes_laws.symm q i.key) items

free_parts : (a b c : Bool) → (not (a || b) && c) ≡ true → (a ≡ false) × (c ≡ true)
free_parts true b c h = cc
free_parts false true c h = cc
free_parts false false c h = (refl, h)

-- none of those that pass is among fewer of them
any-fewer : {X : Type 0} (test p : X → Bool) (xs : List X) → list_any test xs ≡ false → list_any test (filter p xs) ≡ false
any-fewer test p [] none = refl
any-fewer test p (x ∷ xs) none = by_test (p x) (any-fewer test p xs (or_right (test x) (list_any test xs) none))
  where
    by_test : (b : Bool) → list_any test (filter p xs) ≡ false → list_any test (cond b (x ∷ filter p xs) (filter p xs)) ≡ false
    by_test true rest = ap (λ b. b || list_any test (filter p xs)) (or_left (test x) (list_any test xs) none) ∙ rest
    by_test false rest = rest

-- the key of the item is nowhere
abbrev is_nowhere : List Event → Item → Bool
is_nowhere es i = is_absent (history.place_of (history_of es) i.key)

-- keys to which those of such items are added that pass stay each once
grown :
    (waits : List ℕ → Bool) (p : Item → Bool) (ks : List (List ℕ)) → ((i : Item) → p i ≡ true → list_any (bytes_eq i.key) ks ≡ false)
    → (earlier items : List Item) → IsDistinct bytes_eq (ks ++ map (λ i. i.key) (filter p earlier))
    → are_free waits earlier items ≡ true → IsDistinct bytes_eq (ks ++ map (λ i. i.key) (filter p (earlier ++ items)))
grown waits p ks new earlier [] once free = subst (λ xs. IsDistinct bytes_eq (ks ++ map (λ i. i.key) (filter p xs))) (sym (append-nil earlier)) once
grown waits p ks new earlier (x ∷ items) once free =
    let parts = free_parts _ _ _ free in
    subst (λ xs. IsDistinct bytes_eq (ks ++ map (λ i. i.key) (filter p xs))) (append_assoc earlier (x ∷ []) items)
    (grown waits p ks new (earlier ++ x ∷ []) items
    (subst (λ xs. IsDistinct bytes_eq (ks ++ map (λ i. i.key) xs)) (sym (filter-append p earlier (x ∷ []))) (by_test (p x) refl parts.0))
    parts.1)
  where
    by_test : (b : Bool) → p x ≡ b → list_any (has_key x.key) earlier ≡ false → IsDistinct bytes_eq (ks ++ map (λ i. i.key) (filter p earlier ++ cond b (x ∷ []) []))
    by_test false is apart = subst (λ xs. IsDistinct bytes_eq (ks ++ map (λ i. i.key) xs)) (sym (append-nil (filter p earlier))) once
    by_test true is apart =
        let none : list_any (bytes_eq x.key) (ks ++ map (λ i. i.key) (filter p earlier)) ≡ false =
        list_any-append (bytes_eq x.key) ks (map (λ i. i.key) (filter p earlier)) ∙ ap (λ b. b || list_any (bytes_eq x.key) (map (λ i. i.key) (filter p earlier))) (new x is)
        ∙ any-keys x.key (filter p earlier) ∙ any-fewer (has_key x.key) p earlier apart in
        let more : (ks ++ map (λ i. i.key) (filter p earlier)) ++ x.key ∷ [] ≡ ks ++ map (λ i. i.key) (filter p earlier ++ x ∷ []) =
        append_assoc ks (map (λ i. i.key) (filter p earlier)) (x.key ∷ []) ∙ ap (λ ys. ks ++ ys) (sym (map-append (λ (i : Item). i.key) (filter p earlier) (x ∷ []))) in
        subst (IsDistinct bytes_eq) more (IsDistinct-push bytes_laws _ x.key once none)

-- a key that waits is named
waiting_named : (es : List Event) (q : List ℕ) → is_waiting (history.place_of (history_of es) q) ≡ true → list_any (names_key q) es ≡ true
waiting_named es q waits = by_named (list_any (names_key q) es) refl
  where
    there : (p : Place) → is_waiting p ≡ true → is_absent p ≡ false
    there Absent h = cc
    there Waiting h = refl
    there (Done code) h = cc

    by_named : (b : Bool) → list_any (names_key q) es ≡ b → list_any (names_key q) es ≡ true
    by_named true is = is
    by_named false is =
        let clash : false ≡ true = sym (there _ waits) ∙ absent_unless_named q es ∙ ap not is in cc

-- as many keys more are known as keys of the items were nowhere
pub keys_more :
    (es : List Event) (e : Event) → IfSome (finish_of e) (λ c. is_waiting (history.place_of (history_of es) c.item.key) ≡ true)
    → are_free (λ key. is_waiting (history.place_of (history_of es) key)) [] (adds_of e) ≡ true
    → length (known_keys (history_of (es ++ e ∷ [])))
    ≡ length (known_keys (history_of es)) + count_by (λ i. is_absent (history.place_of (history_of es) i.key)) (adds_of e)
keys_more es e waits free =
    length-from_same_keys bytes_laws (known_keys (history_of (es ++ e ∷ []))) (known_keys (history_of es) ++ map (λ i. i.key) (filter (is_nowhere es) (adds_of e)))
    (are_distinct [] _)
    (grown (λ key. is_waiting (history.place_of (history_of es) key)) (is_nowhere es) (known_keys (history_of es)) new [] (adds_of e) (subst (IsDistinct bytes_eq) (sym (append-nil (known_keys (history_of es)))) (are_distinct [] _)) free)
    members
    ∙ length-append (known_keys (history_of es)) (map (λ i. i.key) (filter (is_nowhere es) (adds_of e)))
    ∙ ap (λ n. length (known_keys (history_of es)) + n) (length-map (filter (is_nowhere es) (adds_of e)) (λ (i : Item). i.key) ∙ length-filter (is_nowhere es) (adds_of e))
  where
    new : (i : Item) → is_nowhere es i ≡ true → list_any (bytes_eq i.key) (known_keys (history_of es)) ≡ false
    new i none = known_is_named i.key es ∙ flip (list_any (names_key i.key) es) (sym (absent_unless_named i.key es) ∙ none)
      where
        flip : (b : Bool) → not b ≡ true → b ≡ false
        flip true h = cc
        flip false h = refl

    -- a key that the event finishes was named before
    finished : (q : List ℕ) (o : Option Finishing) → IfSome o (λ c. is_waiting (history.place_of (history_of es) c.item.key) ≡ true) → is_finish_of q o ≡ true → list_any (names_key q) es ≡ true
    finished q None w is = cc
    finished q (Some c) w is = ap (λ k. list_any (names_key k) es) (sym ((bytes_eq-Decides c.item.key q).0 is)) ∙ waiting_named es c.item.key w

    -- of a key that no event names, all items are new, and of another the items tell nothing
    by_named : (q : List ℕ) (b : Bool) → list_any (names_key q) es ≡ b → (b || ((adds_key q e || is_finish_of q (finish_of e)) || false)) ≡ (b || list_any (has_key q) (filter (is_nowhere es) (adds_of e)))
    by_named q true is = refl
    by_named q false is =
        by_finish (adds_key q e) (is_finish_of q (finish_of e)) (λ h. sym is ∙ finished q (finish_of e) waits h)
        ∙ sym (any-filter_same (has_key q) (is_nowhere es) true (λ i same. ap (λ k. is_absent (history.place_of (history_of es) k)) ((bytes_eq-Decides i.key q).0 same) ∙ absent_unless_named q es ∙ ap not is) (adds_of e))
      where
        by_finish : (a f : Bool) → (f ≡ true → false ≡ true) → ((a || f) || false) ≡ a
        by_finish true f h = refl
        by_finish false true h = sym (h refl)
        by_finish false false h = refl

    members : (q : List ℕ) → list_any (bytes_eq q) (known_keys (history_of (es ++ e ∷ []))) ≡ list_any (bytes_eq q) (known_keys (history_of es) ++ map (λ i. i.key) (filter (is_nowhere es) (adds_of e)))
    members q =
        known_is_named q (es ++ e ∷ [])
        ∙ list_any-append (names_key q) es (e ∷ [])
        ∙ by_named q (list_any (names_key q) es) refl
        ∙ ap (λ b. list_any (names_key q) es || b) (sym (any-keys q (filter (is_nowhere es) (adds_of e))))
        ∙ ap (λ b. b || list_any (bytes_eq q) (map (λ i. i.key) (filter (is_nowhere es) (adds_of e)))) (sym (known_is_named q es))
        ∙ sym (list_any-append (bytes_eq q) (known_keys (history_of es)) (map (λ i. i.key) (filter (is_nowhere es) (adds_of e))))
