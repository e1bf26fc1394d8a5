-- What is kept of keys, after one write and after several.
use Rattle.std.proofs.Common.{◌≡◌, ℕ, ◌+◌, ◌<◌, ℤ, Bool, true, false, ◌||◌, List, [], ◌∷◌, ◌++◌, take, drop, length, get_or, refl, sym, ◌∙◌, ap, subst, Option, Some, None, not, ⊎_elim, suc, add-zero, arith}
use Rattle.std.specs.Prelude.{◌&&◌, is_some, option_map, if◌then◌else◌}
use Rattle.std.specs.List.{list_any, AllByRecursion}
use Rattle.std.specs.Option.{option_or}
use Rattle.std.specs.Ordering.{int_eq}
use Rattle.std.proofs.lemmas.Bool.{cases_Bool}
use Rattle.std.proofs.lemmas.List.{take_more, drop_more}
use Rattle.std.proofs.lemmas.List.Folds.{list_any-append}
use Rattle.std.proofs.lemmas.Slice.Eq.{bytes_eq-Decides}
use Rattle.crawl_kinds.specs.declared.event.End.{End}
use Rattle.crawl_kinds.specs.declared.item.Item.{Item}
use Rattle.crawl_history.specs.Codes.{robots_needed}
use Rattle.crawl_history.specs.Outcomes.{is_retry}
use Rattle.crawl_history.specs.Scans.{last_of}
use Rattle.crawl_history.specs.Places.{has_key}
use Rattle.crawl_history.specs.Queues.{Add, adds_from}
use Rattle.history_steps.proofs.Lists.{last_of-snoc}
use Rattle.frontier_memo.specs.declared.known.Known.{Known}
use Rattle.frontier_memo.specs.declared.known.Known.TheVariants as known
use Rattle.frontier_memo.specs.declared.known.Waiting.{Waiting}
use Rattle.frontier_memo.specs.Keeping.{waits_by, code_by, add_at, added_by, after_adds, after_finish, tried, ended, are_free}
use Rattle.frontier_memo.specs.Undoing.{done_again, undone, undone_all}

-- nothing is there
pub not_there : {X : Type 0} (o : Option X) → is_some o ≡ false → o ≡ None
not_there None h = refl
not_there (Some x) h = cc

-- one element more of those looked at
pub next_taken : {X : Type 0} (xs : List X) (i : ℕ) (x : X) → i < length xs → x ≡ get_or xs i x → take (i + 1) xs ≡ take i xs ++ x ∷ []
next_taken xs i x lt is = take_more xs i x lt ∙ ap (λ y. take i xs ++ y ∷ []) (sym is)

pub next_dropped : {X : Type 0} (xs : List X) (i : ℕ) (x : X) → i < length xs → x ≡ get_or xs i x → drop i xs ≡ x ∷ drop (i + 1) xs
next_dropped xs i x lt is = drop_more xs i x lt ∙ ap (λ y. y ∷ drop (i + 1) xs) (sym is)

-- ---- adds

adds_from-snoc : (n : ℕ) (xs : List Item) (x : Item) → adds_from n (xs ++ x ∷ []) ≡ adds_from n xs ++ record { ordinal = n + length xs; item = x } ∷ []
adds_from-snoc n [] x = ap (λ m. record { ordinal = m; item = x } ∷ []) (sym (add-zero n))
adds_from-snoc n (y ∷ ys) x =
    ap (λ zs. record { ordinal = n; item = y } ∷ zs)
    (adds_from-snoc (n + 1) ys x ∙ ap (λ m. adds_from (n + 1) ys ++ record { ordinal = m; item = x } ∷ []) (one_more n (length ys)))
  where
    one_more : (n k : ℕ) → (n + 1) + k ≡ n + suc k
    one_more n k = omega arith

after_adds-snoc :
    (n : ℕ) (xs : List Item) (x : Item) (key : List ℕ) (kept : Option Known)
    → after_adds n (xs ++ x ∷ []) key kept
    ≡ (if has_key key x then Some (added_by (record { ordinal = (n + 1) + length xs; item = x })) else after_adds n xs key kept)
after_adds-snoc n xs x key kept =
    ap (λ adds. option_or (option_map added_by (last_of (add_at key) adds)) kept) (adds_from-snoc (n + 1) xs x)
    ∙ ap (λ o. option_or (option_map added_by o) kept) (last_of-snoc (add_at key) (adds_from (n + 1) xs) (record { ordinal = (n + 1) + length xs; item = x }))
    ∙ by_key (has_key key x)
  where
    by_key :
        (b : Bool) → option_or (option_map added_by (option_or (if b then Some (record { ordinal = (n + 1) + length xs; item = x }) else None) (last_of (add_at key) (adds_from (n + 1) xs)))) kept
        ≡ (if b then Some (added_by (record { ordinal = (n + 1) + length xs; item = x })) else after_adds n xs key kept)
    by_key true = refl
    by_key false = refl

-- a key has a last add just where an item has it
pub any-last : (key : List ℕ) (n : ℕ) (xs : List Item) → is_some (last_of (add_at key) (adds_from n xs)) ≡ list_any (has_key key) xs
any-last key n [] = refl
any-last key n (x ∷ xs) = by_key (has_key key x) (last_of (add_at key) (adds_from (n + 1) xs)) ∙ ap (λ b. has_key key x || b) (any-last key (n + 1) xs)
  where
    by_key : (b : Bool) (o : Option Add) → is_some (option_or o (if b then Some (record { ordinal = n; item = x }) else None)) ≡ (b || is_some o)
    by_key true None = refl
    by_key true (Some y) = refl
    by_key false None = refl
    by_key false (Some y) = refl

pub waits_by-after_adds :
    (n : ℕ) (xs : List Item) (key : List ℕ) (kept : Option Known)
    → waits_by (after_adds n xs key kept) ≡ (list_any (has_key key) xs || waits_by kept)
waits_by-after_adds n xs key kept =
    by_last (last_of (add_at key) (adds_from (n + 1) xs)) ∙ ap (λ b. b || waits_by kept) (any-last key (n + 1) xs)
  where
    by_last : (o : Option Add) → waits_by (option_or (option_map added_by o) kept) ≡ (is_some o || waits_by kept)
    by_last None = refl
    by_last (Some x) = refl

-- where no item has the key, what was kept stays
pub none_added : (n : ℕ) (xs : List Item) (key : List ℕ) (kept : Option Known) → list_any (has_key key) xs ≡ false → after_adds n xs key kept ≡ kept
none_added n xs key kept none = by_last (last_of (add_at key) (adds_from (n + 1) xs)) (any-last key (n + 1) xs ∙ none)
  where
    by_last : (o : Option Add) → is_some o ≡ false → option_or (option_map added_by o) kept ≡ kept
    by_last None h = refl
    by_last (Some x) h = cc

-- one item more is added
pub added_more :
    (n ordinal : ℕ) (before old new : Option Known) (xs : List Item) (x : Item) (key : List ℕ)
    → ordinal ≡ (n + 1) + length xs
    → new ≡ (if has_key key x then Some (added_by (record { ordinal = ordinal; item = x })) else before) → before ≡ after_adds n xs key old
    → new ≡ after_adds n (xs ++ x ∷ []) key old
added_more n ordinal before old new xs x key at e is =
    e
    ∙ ap (λ o. if has_key key x then Some (added_by (record { ordinal = ordinal; item = x })) else o) is
    ∙ ap (λ m. if has_key key x then Some (added_by (record { ordinal = m; item = x })) else after_adds n xs key old) at
    ∙ sym (after_adds-snoc n xs x key old)

-- one item more is found free, or is not
pub free_step :
    (waits : List ℕ → Bool) (earlier later : List Item) (x : Item) (w : Bool)
    → w ≡ (list_any (has_key x.key) earlier || waits x.key)
    → are_free waits earlier (x ∷ later) ≡ (not w && are_free waits (earlier ++ x ∷ []) later)
free_step waits earlier later x w e = ap (λ b. not b && are_free waits (earlier ++ x ∷ []) later) (sym e)

-- where the same keys wait, the same items are free
pub are_free-same : (v w : List ℕ → Bool) → ((key : List ℕ) → v key ≡ w key) → (earlier items : List Item) → are_free v earlier items ≡ are_free w earlier items
are_free-same v w same earlier [] = refl
are_free-same v w same earlier (x ∷ items) =
    ap (λ b. not (list_any (has_key x.key) earlier || b) && are_free v (earlier ++ x ∷ []) items) (same x.key)
    ∙ ap (λ b. not (list_any (has_key x.key) earlier || w x.key) && b) (are_free-same v w same (earlier ++ x ∷ []) items)

free_parts : (a b c : Bool) → (not (a || b) && c) ≡ true → (b ≡ false) × (c ≡ true)
free_parts true b c h = cc
free_parts false true c h = cc
free_parts false false c h = (refl, h)

-- what waits is not among items that are free
pub waits_apart : (waits : List ℕ → Bool) (earlier items : List Item) (key : List ℕ) → waits key ≡ true → are_free waits earlier items ≡ true → list_any (has_key key) items ≡ false
waits_apart waits earlier [] key is free = refl
waits_apart waits earlier (x ∷ items) key is free =
    let parts = free_parts (list_any (has_key x.key) earlier) (waits x.key) _ free in
    ap (λ b. b || list_any (has_key key) items) (other (has_key key x) refl parts.0) ∙ waits_apart waits (earlier ++ x ∷ []) items key is parts.1
  where
    other : (b : Bool) → has_key key x ≡ b → waits x.key ≡ false → has_key key x ≡ false
    other false e free = e
    other true e free = let clash : true ≡ false = sym is ∙ ap waits (sym ((bytes_eq-Decides x.key key).0 e)) ∙ free in cc

-- ---- what is taken back

-- one item more is taken back
pub undone_more :
    (kept : List ℕ → Option Known) (xs : List Item) (x : Item) (code : Option ℤ) (key : List ℕ) (old before new : Option Known)
    → code ≡ code_by (kept x.key) → new ≡ undone x code key before → before ≡ undone_all xs (code_by (kept key)) key old
    → new ≡ undone_all (xs ++ x ∷ []) (code_by (kept key)) key old
undone_more kept xs x code key old before new of e is =
    e ∙ ap (λ o. undone x code key o) is
    ∙ by_key (has_key key x) refl
    ∙ ap (λ b. if b then done_again (code_by (kept key)) old else old) (sym (list_any-append (has_key key) xs (x ∷ [])))
  where
    twice : (c : Option ℤ) (o : Option Known) → done_again c (done_again c o) ≡ done_again c o
    twice None o = refl
    twice (Some c) None = refl
    twice (Some c) (Some k) = refl

    by_any : (b : Bool) → done_again (code_by (kept key)) (if b then done_again (code_by (kept key)) old else old) ≡ (if b || (true || false) then done_again (code_by (kept key)) old else old)
    by_any true = twice (code_by (kept key)) old
    by_any false = refl

    or-false : (b : Bool) → (if b then done_again (code_by (kept key)) old else old) ≡ (if b || (false || false) then done_again (code_by (kept key)) old else old)
    or-false true = refl
    or-false false = refl

    by_key :
        (b : Bool) → has_key key x ≡ b
        → (if b then done_again code (undone_all xs (code_by (kept key)) key old) else undone_all xs (code_by (kept key)) key old)
        ≡ (if list_any (has_key key) xs || (b || false) then done_again (code_by (kept key)) old else old)
    by_key true h = ap (λ c. done_again c (undone_all xs (code_by (kept key)) key old)) (of ∙ ap (λ k. code_by (kept k)) ((bytes_eq-Decides x.key key).0 h)) ∙ by_any (list_any (has_key key) xs)
    by_key false h = or-false (list_any (has_key key) xs)

-- the key of one of these items does not wait
none_waits :
    (kept : List ℕ → Option Known) (xs : List Item) (key : List ℕ) → AllByRecursion (λ i. waits_by (kept i.key) ≡ false) xs
    → list_any (has_key key) xs ≡ true → waits_by (kept key) ≡ false
none_waits kept [] key all h = cc
none_waits kept (x ∷ xs) key all h =
    ⊎_elim
    (λ e. subst (λ k. waits_by (kept k) ≡ false) ((bytes_eq-Decides x.key key).0 e) all.0)
    (λ e. none_waits kept xs key all.1 (ap (λ b. b || list_any (has_key key) xs) (sym e) ∙ h))
    (cases_Bool (has_key key x))

-- what was added and taken back is as before
pub restored :
    (kept : List ℕ → Option Known) (n : ℕ) (xs : List Item) (key : List ℕ) (before new : Option Known)
    → AllByRecursion (λ i. waits_by (kept i.key) ≡ false) xs
    → before ≡ after_adds n xs key (kept key)
    → new ≡ undone_all xs (code_by (kept key)) key before
    → new ≡ kept key
restored kept n xs key before new all is e =
    e ∙ ap (λ o. undone_all xs (code_by (kept key)) key o) is
    ∙ ⊎_elim
    (λ some.
    ap (λ b. if b then done_again (code_by (kept key)) (after_adds n xs key (kept key)) else after_adds n xs key (kept key)) some
    ∙ again (kept key) (last_of (add_at key) (adds_from (n + 1) xs)) (none_waits kept xs key all some) (any-last key (n + 1) xs ∙ some))
    (λ none.
    ap (λ b. if b then done_again (code_by (kept key)) (after_adds n xs key (kept key)) else after_adds n xs key (kept key)) none
    ∙ none_added n xs key (kept key) none)
    (cases_Bool (list_any (has_key key) xs))
  where
    again : (o : Option Known) (a : Option Add) → waits_by o ≡ false → is_some a ≡ true → done_again (code_by o) (option_or (option_map added_by a) o) ≡ o
    again None a h some = refl
    again (Some (known.Waits w)) a h some = cc
    again (Some (known.Done code)) None h some = cc
    again (Some (known.Done code)) (Some x) h some = refl

pub all-push : {X : Type 0} (P : X → Type 0) (xs : List X) (x : X) → AllByRecursion P xs → P x → AllByRecursion P (xs ++ x ∷ [])
all-push P [] x all p = (p, tt)
all-push P (y ∷ ys) x all p = (all.0, all-push P ys x all.1 p)

-- ---- ends

-- an end that is none to try again
pub done_by : (item : Item) (end : End) (key : List ℕ) (kept : Option Known) → is_retry end.outcome ≡ false → (if has_key key item then option_map (λ _. known.Done end.code) kept else kept) ≡ after_finish item end key kept
done_by item end key kept last = ap (λ o. if has_key key item then o else kept) (by_kept kept)
  where
    by_kept : (o : Option Known) → option_map (λ _. known.Done end.code) o ≡ option_map (ended end) o
    by_kept None = refl
    by_kept (Some k) = ap (λ b. Some (if b then tried end k else known.Done end.code)) (sym last)

-- what is tried waits just where it waited
waits_by-tried : (end : End) (o : Option Known) → waits_by (option_map (tried end) o) ≡ waits_by o
waits_by-tried end None = refl
waits_by-tried end (Some (known.Done code)) = refl
waits_by-tried end (Some (known.Waits w)) = by_code (int_eq end.code robots_needed) _
  where
    by_code : (b : Bool) (v : Waiting) → waits_by (Some (if b then known.Waits w else known.Waits v)) ≡ true
    by_code true v = refl
    by_code false v = refl

-- a key that is tried again waits just where it waited
pub waits_again : (item : Item) (end : End) (key : List ℕ) (kept : Option Known) → is_retry end.outcome ≡ true → waits_by kept ≡ waits_by (after_finish item end key kept)
waits_again item end key kept again =
    by_key (has_key key item) ∙ ap (λ o. waits_by (if has_key key item then o else kept)) (sym (by_kept kept))
  where
    by_key : (b : Bool) → waits_by kept ≡ waits_by (if b then option_map (tried end) kept else kept)
    by_key true = sym (waits_by-tried end kept)
    by_key false = refl

    by_kept : (o : Option Known) → option_map (ended end) o ≡ option_map (tried end) o
    by_kept None = refl
    by_kept (Some k) = ap (λ b. Some (if b then tried end k else known.Done end.code)) again

-- adds of other keys and a try of this one go in either order
pub try_after_adds :
    (item : Item) (end : End) (n : ℕ) (adds : List Item) (key : List ℕ) (kept : Option Known) → list_any (has_key item.key) adds ≡ false
    → after_finish item end key (after_adds n adds key kept) ≡ after_adds n adds key (after_finish item end key kept)
try_after_adds item end n adds key kept none = by_key (has_key key item) refl
  where
    by_key :
        (b : Bool) → has_key key item ≡ b
        → (if b then option_map (ended end) (after_adds n adds key kept) else after_adds n adds key kept)
        ≡ after_adds n adds key (if b then option_map (ended end) kept else kept)
    by_key false is = refl
    by_key true is =
        let free : list_any (has_key key) adds ≡ false = ap (λ k. list_any (has_key k) adds) (sym ((bytes_eq-Decides item.key key).0 is)) ∙ none in
        ap (option_map (ended end)) (none_added n adds key kept free) ∙ sym (none_added n adds key (option_map (ended end) kept) free)

-- what was written over is as before, once it is written back
pub put_back :
    (item : Item) (known' code' : Known) (key : List ℕ) (old before new : Option Known)
    → old ≡ (if has_key key item then Some known' else old)
    → before ≡ (if has_key key item then option_map (λ _. code') old else old)
    → new ≡ (if has_key key item then option_map (λ _. known') before else before)
    → new ≡ old
put_back item known' code' key old before new was over back =
    back ∙ ap (λ o. if has_key key item then option_map (λ _. known') o else o) over ∙ by_key (has_key key item) old was
  where
    by_key : (b : Bool) (o : Option Known) → o ≡ (if b then Some known' else o) → (if b then option_map (λ _. known') (if b then option_map (λ _. code') o else o) else (if b then option_map (λ _. code') o else o)) ≡ o
    by_key false o is = refl
    by_key true None is = cc
    by_key true (Some k) is = sym is

-- what is kept of the key of an item, at any text
pub kept_there : (kept : List ℕ → Option Known) (item : Item) (key : List ℕ) (o : Option Known) → kept item.key ≡ o → kept key ≡ (if has_key key item then o else kept key)
kept_there kept item key o is = by_key (has_key key item) refl
  where
    by_key : (b : Bool) → has_key key item ≡ b → kept key ≡ (if b then o else kept key)
    by_key true e = ap kept (sym ((bytes_eq-Decides item.key key).0 e)) ∙ is
    by_key false e = refl

-- the same where nothing was kept
pub put_none : (item : Item) (code' : Known) (key : List ℕ) (old before : Option Known) → old ≡ (if has_key key item then None else old) → before ≡ (if has_key key item then option_map (λ _. code') old else old) → before ≡ old
put_none item code' key old before was over = over ∙ by_key (has_key key item) old was
  where
    by_key : (b : Bool) (o : Option Known) → o ≡ (if b then None else o) → (if b then option_map (λ _. code') o else o) ≡ o
    by_key false o is = refl
    by_key true None is = refl
    by_key true (Some k) is = cc

-- what is written over a key that is tried again
pub tried_over :
    (item : Item) (end : End) (key : List ℕ) (old : Option Known) (v w : Known) → is_retry end.outcome ≡ true → w ≡ tried end v
    → old ≡ (if has_key key item then Some v else old) → (if has_key key item then option_map (λ _. w) old else old) ≡ after_finish item end key old
tried_over item end key old v w again is was = by_key (has_key key item) was
  where
    by_key : (b : Bool) → old ≡ (if b then Some v else old) → (if b then option_map (λ _. w) old else old) ≡ (if b then option_map (ended end) old else old)
    by_key false was = refl
    by_key true was =
        ap (option_map (λ _. w)) was ∙ ap (λ k. Some k) is ∙ ap (λ b. Some (if b then tried end v else known.Done end.code)) (sym again) ∙ sym (ap (option_map (ended end)) was)

-- the second of two that both fail
pub or_parts : (a b : Bool) → (a || b) ≡ false → b ≡ false
or_parts true b h = cc
or_parts false b h = h
