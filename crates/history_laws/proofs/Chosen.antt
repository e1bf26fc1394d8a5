-- What an emit gives is the first item of a queue whose class may be asked.
--     IsQueued h class item      what holds of each item of a queue
--     IsChosen f a h t item      what holds of the item that an emit gives
use Rattle.std.proofs.Common.{◌≡◌, ℕ, Bool, true, false, ◌&&◌, not, cond, List, [], ◌∷◌, map, refl, sym, ◌∙◌, ap, subst, Option, Some, None}
use Rattle.std.specs.Prelude.{filter, option_and_then, if◌then◌else◌, nat_le}
use Rattle.std.specs.List.{list_any, AllByRecursion}
use Rattle.std.proofs.lemmas.Slice.Eq.{bytes_eq-Decides}
use Rattle.crawl_kinds.specs.declared.item.Item.{Item}
use Rattle.crawl_history.specs.Counts.{is_limit_met}
use Rattle.crawl_history.specs.Emission.{Gives, NotYet, Over, answer, answer_by, next_work, is_over, next_wake, goes_before, ready, Snoozed, live_classes}
use Rattle.crawl_history.specs.Facts.{Facts, Archive}
use Rattle.crawl_history.specs.History.{History}
use Rattle.crawl_history.specs.Places.{place_of, has_key, is_waiting}
use Rattle.crawl_history.specs.Queues.{Add, all_adds, has_add, is_waiting_add, queue, waiting_adds, in_class, put_by_rank, in_rank_order}
use Rattle.crawl_history.specs.Scans.{first_of, least_of}
use Rattle.crawl_history.specs.Tickets.{is_out}
use Rattle.crawl_history.specs.Waits.{wake}
use Rattle.history_laws.proofs.Lists.{or_left, or_right, bytes_itself, all-filter, all-mono, all-map, first-holds, least-holds}

-- ---- the items of a queue

all-put_by_rank : (P : Item → Type 0) (x : Item) (ys : List Item) → P x → AllByRecursion P ys → AllByRecursion P (put_by_rank x ys)
all-put_by_rank P x [] h all = (h, tt)
all-put_by_rank P x (y ∷ ys) h all = by_test (nat_le x.rank y.rank) (all-put_by_rank P x ys h all.1)
  where
    by_test : (b : Bool) → AllByRecursion P (put_by_rank x ys) → AllByRecursion P (if b then x ∷ y ∷ ys else y ∷ put_by_rank x ys)
    by_test true rest = (h, all)
    by_test false rest = (all.0, rest)

all-in_rank_order : (P : Item → Type 0) (xs : List Item) → AllByRecursion P xs → AllByRecursion P (in_rank_order xs)
all-in_rank_order P [] all = tt
all-in_rank_order P (x ∷ xs) all = all-put_by_rank P x (in_rank_order xs) all.0 (all-in_rank_order P xs all.1)

-- each add has its own key
own_keys : (xs : List Add) → AllByRecursion (λ a. list_any (λ b. has_key a.item.key b.item) xs ≡ true) xs
own_keys [] = tt
own_keys (a ∷ xs) = (or_left _ _ (bytes_itself a.item.key), all-mono _ _ (λ b h. or_right (has_key b.item.key a.item) _ h) xs (own_keys xs))

pub record IsQueued (h : History) (class : List ℕ) (item : Item) : Type 0 where
  pub of_class : in_class class item ≡ true
  pub waits : is_waiting (place_of h item.key) ≡ true
  pub added : has_add h item.key ≡ true

pub all-queued : (h : History) (class : List ℕ) → AllByRecursion (IsQueued h class) (queue h class)
all-queued h class =
    all-in_rank_order (IsQueued h class) _
    (all-mono _ _ (λ i q. record { of_class = q.0; waits = q.1.0; added = q.1.1 }) _
    (all-filter (λ i. (is_waiting (place_of h i.key) ≡ true) × (has_add h i.key ≡ true)) (in_class class) _
    (all-map (λ i. (is_waiting (place_of h i.key) ≡ true) × (has_add h i.key ≡ true)) (λ a. a.item) (waiting_adds h)
    (all-mono _ _ (λ a q. (left_true (is_waiting (place_of h a.item.key)) _ q.0, q.1)) (waiting_adds h)
    (all-filter (λ a. has_add h a.item.key ≡ true) (is_waiting_add h) (all_adds h) (own_keys (all_adds h)))))))
  where
    left_true : (b c : Bool) → (b && c) ≡ true → b ≡ true
    left_true true c e = refl
    left_true false c e = cc e

-- ---- a class that may be asked

-- a ready class has its wake behind it and nothing out
pub record IsReady (f : Facts) (a : Archive) (h : History) (t : ℕ) (s : Snoozed) : Type 0 where
  pub awake : nat_le s.wake t ≡ true
  pub wake_is : s.wake ≡ wake f a h s.class
  pub closed : is_out h s.class ≡ false

all-ready :
    (f : Facts) (a : Archive) (h : History) (t : ℕ) (ks : List (List ℕ))
    → AllByRecursion (IsReady f a h t) (filter (λ s. nat_le s.wake t) (map (λ class. record { wake = wake f a h class; class = class }) (filter (λ class. not (is_out h class)) ks)))
all-ready f a h t [] = tt
all-ready f a h t (k ∷ ks) = by_out (is_out h k) refl (all-ready f a h t ks)
  where
    by_wake :
        (b : Bool) → nat_le (wake f a h k) t ≡ b → is_out h k ≡ false → (rest : List Snoozed) → AllByRecursion (IsReady f a h t) (filter (λ s. nat_le s.wake t) rest)
        → AllByRecursion (IsReady f a h t) (cond b (record { wake = wake f a h k; class = k } ∷ filter (λ s. nat_le s.wake t) rest) (filter (λ s. nat_le s.wake t) rest))
    by_wake true is closed rest all = (record { awake = is; wake_is = refl; closed = closed }, all)
    by_wake false is closed rest all = all

    by_out :
        (b : Bool) → is_out h k ≡ b → AllByRecursion (IsReady f a h t) (filter (λ s. nat_le s.wake t) (map (λ class. record { wake = wake f a h class; class = class }) (filter (λ class. not (is_out h class)) ks)))
        → AllByRecursion (IsReady f a h t) (filter (λ s. nat_le s.wake t) (map (λ class. record { wake = wake f a h class; class = class }) (cond (not b) (k ∷ filter (λ class. not (is_out h class)) ks) (filter (λ class. not (is_out h class)) ks))))
    by_out true is all = all
    by_out false is all = by_wake (nat_le (wake f a h k) t) refl is _ all

-- ---- the item that an emit gives

pub record IsChosen (f : Facts) (a : Archive) (h : History) (t : ℕ) (item : Item) : Type 0 where
  pub awake : nat_le (wake f a h item.class) t ≡ true
  pub closed : is_out h item.class ≡ false
  pub first : first_of (queue h item.class) ≡ Some item
  pub queued : IsQueued h item.class item

pub given-chosen : (f : Facts) (a : Archive) (h : History) (t : ℕ) (item : Item) → answer f a h t ≡ Gives item → IsChosen f a h t item
given-chosen f a h t item e = by_work (next_work f a h t) refl e
  where
    same_work : (x y : Item) → Gives x ≡ Gives y → x ≡ y
    same_work x y e = cc e

    not_over : (b : Bool) (next : Option ℕ) → (if b then Over else NotYet next) ≡ Gives item → ⊥
    not_over true next e = cc e
    not_over false next e = cc e

    chosen : (s : Snoozed) → IsReady f a h t s → first_of (queue h s.class) ≡ Some item → IsQueued h s.class item → IsChosen f a h t item
    chosen s ready first queued =
        let same : item.class ≡ s.class = (bytes_eq-Decides item.class s.class).0 queued.of_class in
        record {
          awake = ap (λ k. nat_le (wake f a h k) t) same ∙ ap (λ w. nat_le w t) (sym ready.wake_is) ∙ ready.awake;
          closed = ap (is_out h) same ∙ ready.closed;
          first = ap (λ k. first_of (queue h k)) same ∙ first;
          queued = subst (λ k. IsQueued h k item) (sym same) queued;
        }

    from_class : (o : Option Snoozed) → ((s : Snoozed) → o ≡ Some s → IsReady f a h t s) → option_and_then (λ s. first_of (queue h s.class)) o ≡ Some item → IsChosen f a h t item
    from_class None ready e = cc e
    from_class (Some s) ready e = chosen s (ready s refl) e (first-holds (IsQueued h s.class) (queue h s.class) (all-queued h s.class) item e)

    from_limit : (b : Bool) → (if b then None else option_and_then (λ s. first_of (queue h s.class)) (least_of goes_before (ready f a h t))) ≡ Some item → IsChosen f a h t item
    from_limit true e = cc e
    from_limit false e = from_class (least_of goes_before (ready f a h t)) (λ s is. least-holds goes_before (IsReady f a h t) (ready f a h t) (all-ready f a h t (live_classes f.settings h)) s is) e

    by_work : (o : Option Item) → next_work f a h t ≡ o → answer_by f a h t o ≡ Gives item → IsChosen f a h t item
    by_work (Some x) w e = from_limit (is_limit_met f.settings h t) (w ∙ ap Some (same_work x item e))
    by_work None w e = absurd (not_over (is_over f a h t) (next_wake f a h t) e)
