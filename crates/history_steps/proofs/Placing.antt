-- What one more event does to places, adds and ordinals.
use Rattle.std.proofs.Common.{◌≡◌, ℕ, suc, ◌+◌, ◌||◌, List, [], ◌∷◌, ◌++◌, map, length, refl, sym, ◌∙◌, ap, arith, Option, Some, None, add-zero}
use Rattle.std.specs.Prelude.{flat_map, unwrap_or}
use Rattle.std.specs.List.{list_any}
use Rattle.std.specs.Option.{option_or}
use Rattle.std.proofs.lemmas.List.{append_assoc, length-append}
use Rattle.std.proofs.lemmas.List.Folds.{list_any-append}
use Rattle.crawl_kinds.specs.declared.event.Event.{Event}
use Rattle.crawl_kinds.specs.declared.item.Item.{Item}
use Rattle.crawl_kinds.specs.Event.{adds_of}
use Rattle.crawl_history.specs.Scans.{last_of}
use Rattle.crawl_history.specs.History.{History, with_event}
use Rattle.crawl_history.specs.Places.{place_of, place_by, place_in, has_key, adds_key}
use Rattle.crawl_history.specs.Queues.{all_adds, adds_from, ordinal_count, ordinal_of, ordinal_at, has_add}
use Rattle.history_steps.proofs.Lists.{last_of-snoc, last_of-append, flat_map-snoc}

unwrap_or-or : {X : Type 0} (o p : Option X) (d : X) → unwrap_or (option_or o p) d ≡ unwrap_or o (unwrap_or p d)
unwrap_or-or None p d = refl
unwrap_or-or (Some x) p d = refl

pub place_of-with_event : (h : History) (e : Event) (key : List ℕ) → place_of (with_event h e) key ≡ unwrap_or (place_by key e) (place_of h key)
place_of-with_event h e key =
    ap (λ o. unwrap_or o (place_in h.base key)) (last_of-snoc (place_by key) h.events e)
    ∙ unwrap_or-or (place_by key e) (last_of (place_by key) h.events) (place_in h.base key)

adds_from-append : (n : ℕ) (xs ys : List Item) → adds_from n (xs ++ ys) ≡ adds_from n xs ++ adds_from (n + length xs) ys
adds_from-append n [] ys = ap (λ m. adds_from m ys) (sym (add-zero n))
adds_from-append n (x ∷ xs) ys =
    ap (λ zs. record { ordinal = n; item = x } ∷ zs) (adds_from-append (n + 1) xs ys ∙ ap (λ m. adds_from (n + 1) xs ++ adds_from m ys) (one_more n (length xs)))
  where
    one_more : (n k : ℕ) → (n + 1) + k ≡ n + suc k
    one_more n k = omega arith

pub ordinal_count-with_event : (h : History) (e : Event) → ordinal_count (with_event h e) ≡ ordinal_count h + length (adds_of e)
ordinal_count-with_event h e =
    ap (λ xs. h.base.ordinals + length xs) (flat_map-snoc adds_of h.events e)
    ∙ ap (λ n. h.base.ordinals + n) (length-append (flat_map adds_of h.events) (adds_of e))
    ∙ regroup h.base.ordinals (length (flat_map adds_of h.events)) (length (adds_of e))
  where
    regroup : (b n m : ℕ) → b + (n + m) ≡ (b + n) + m
    regroup b n m = omega arith

pub all_adds-with_event : (h : History) (e : Event) → all_adds (with_event h e) ≡ all_adds h ++ adds_from (ordinal_count h + 1) (adds_of e)
all_adds-with_event h e =
    ap (λ xs. map (λ w. record { ordinal = w.ordinal; item = w.item }) h.base.waiting ++ adds_from (h.base.ordinals + 1) xs) (flat_map-snoc adds_of h.events e)
    ∙ ap (λ xs. map (λ w. record { ordinal = w.ordinal; item = w.item }) h.base.waiting ++ xs) (adds_from-append (h.base.ordinals + 1) (flat_map adds_of h.events) (adds_of e))
    ∙ ap (λ n. map (λ w. record { ordinal = w.ordinal; item = w.item }) h.base.waiting ++ (adds_from (h.base.ordinals + 1) (flat_map adds_of h.events) ++ adds_from n (adds_of e))) (swap h.base.ordinals (length (flat_map adds_of h.events)))
    ∙ sym (append_assoc (map (λ w. record { ordinal = w.ordinal; item = w.item }) h.base.waiting) (adds_from (h.base.ordinals + 1) (flat_map adds_of h.events)) (adds_from (ordinal_count h + 1) (adds_of e)))
  where
    swap : (b n : ℕ) → (b + 1) + n ≡ (b + n) + 1
    swap b n = omega arith

pub ordinal_of-with_event :
    (h : History) (e : Event) (key : List ℕ)
    → ordinal_of (with_event h e) key ≡ unwrap_or (last_of (ordinal_at key) (adds_from (ordinal_count h + 1) (adds_of e))) (ordinal_of h key)
ordinal_of-with_event h e key =
    ap (λ xs. unwrap_or (last_of (ordinal_at key) xs) 0) (all_adds-with_event h e)
    ∙ ap (λ o. unwrap_or o 0) (last_of-append (ordinal_at key) (all_adds h) (adds_from (ordinal_count h + 1) (adds_of e)))
    ∙ unwrap_or-or (last_of (ordinal_at key) (adds_from (ordinal_count h + 1) (adds_of e))) (last_of (ordinal_at key) (all_adds h)) 0

any-adds_from : (key : List ℕ) (n : ℕ) (xs : List Item) → list_any (λ a. has_key key a.item) (adds_from n xs) ≡ list_any (has_key key) xs
any-adds_from key n [] = refl
any-adds_from key n (x ∷ xs) = ap (λ b. has_key key x || b) (any-adds_from key (n + 1) xs)

-- a key was added before, or by the event
pub has_add-with_event : (h : History) (e : Event) (key : List ℕ) → has_add (with_event h e) key ≡ (has_add h key || adds_key key e)
has_add-with_event h e key =
    ap (list_any (λ a. has_key key a.item)) (all_adds-with_event h e)
    ∙ list_any-append (λ a. has_key key a.item) (all_adds h) (adds_from (ordinal_count h + 1) (adds_of e))
    ∙ ap (λ b. has_add h key || b) (any-adds_from key (ordinal_count h + 1) (adds_of e))
