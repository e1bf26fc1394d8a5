-- In the snapshot of a history each key waits once, under an ordinal that was given.
use Rattle.std.proofs.Common.{◌≡◌, ℕ, suc, ◌+◌, ◌≤◌, Bool, true, false, ◌&&◌, List, [], ◌∷◌, map, length, refl, sym, subst, arith, ◌==◌}
use Rattle.std.specs.Prelude.{flat_map}
use Rattle.std.specs.List.{AllByRecursion}
use Rattle.crawl_kinds.specs.declared.item.Item.{Item}
use Rattle.crawl_kinds.specs.declared.snapshot.KeyWaits.{KeyWaits}
use Rattle.crawl_kinds.specs.Event.{adds_of}
use Rattle.crawl_history.specs.History.{History}
use Rattle.crawl_history.specs.Places.{place_of, has_key, is_waiting}
use Rattle.crawl_history.specs.Queues.{Add, all_adds, adds_from, has_add, is_waiting_add, ordinal_count, ordinal_of, waiting_adds}
use Rattle.crawl_history.specs.Counts.{vain_tries}
use Rattle.crawl_history.specs.Snapshots.{snapshot_of}
use Rattle.history_laws.specs.Laws.{WaitsOnce}
use Rattle.history_laws.proofs.Based.{as_add, number-both-≤, ordinal_of-once}
use Rattle.history_laws.proofs.Counting.{number, number-none_any}
use Rattle.history_laws.proofs.Keeping.{number-map, number-none, waiting-number}
use Rattle.history_laws.proofs.Lists.{all-append, all-filter, all-map, all-mono}

-- each key waits once at most
waiting-once : (h : History) (key : List ℕ) → WaitsOnce h.base → number (λ a. has_key key a.item) (waiting_adds h) ≤ 1
waiting-once h key sound = subst (λ n. n ≤ 1) (sym (waiting-number h key)) (by_place (is_waiting (place_of h key)))
  where
    none : (n m : ℕ) → n ≤ m → m ≡ 0 → n ≤ 1
    none n m h e = omega (arith, h, e)

    one : (n : ℕ) → n ≡ 1 → n ≤ 1
    one n e = omega (arith, e)

    nothing : (n : ℕ) → n ≡ 0 → n ≤ 1
    nothing n e = omega (arith, e)

    by_add : (b : Bool) → has_add h key ≡ b → number (λ a. has_key key a.item && a.ordinal == ordinal_of h key) (all_adds h) ≤ 1
    by_add true any = one _ (ordinal_of-once h key sound any)
    by_add false any =
        none _ (number (λ a. has_key key a.item) (all_adds h)) (number-both-≤ (λ a. has_key key a.item) (λ a. a.ordinal == ordinal_of h key) (all_adds h))
        (number-none_any (λ a. has_key key a.item) (all_adds h) any)

    by_place : (b : Bool) → number (λ a. has_key key a.item && (b && a.ordinal == ordinal_of h key)) (all_adds h) ≤ 1
    by_place true = by_add (has_add h key) refl
    by_place false = nothing _ (number-none (λ a. has_key key a.item) (all_adds h))

-- ordinals are given in order
all-adds_from : (n b : ℕ) (xs : List Item) → n + length xs ≤ b + 1 → AllByRecursion (λ a. a.ordinal ≤ b) (adds_from n xs)
all-adds_from n b [] room = tt
all-adds_from n b (x ∷ xs) room = (first n b (length xs) room, all-adds_from (n + 1) b xs (rest n b (length xs) room))
  where
    first : (n b k : ℕ) → n + suc k ≤ b + 1 → n ≤ b
    first n b k room = omega (arith, room)

    rest : (n b k : ℕ) → n + suc k ≤ b + 1 → (n + 1) + k ≤ b + 1
    rest n b k room = omega (arith, room)

all-given : (h : History) → WaitsOnce h.base → AllByRecursion (λ a. a.ordinal ≤ ordinal_count h) (all_adds h)
all-given h sound =
    all-append _ (map as_add h.base.waiting) (adds_from (h.base.ordinals + 1) (flat_map adds_of h.events))
    (all-map (λ a. a.ordinal ≤ ordinal_count h) as_add h.base.waiting (all-mono _ _ (λ w given. more w.ordinal h.base.ordinals (length (flat_map adds_of h.events)) given) h.base.waiting sound.ordinals))
    (all-adds_from (h.base.ordinals + 1) (ordinal_count h) (flat_map adds_of h.events) (room h.base.ordinals (length (flat_map adds_of h.events))))
  where
    more : (m n k : ℕ) → m ≤ n → m ≤ n + k
    more m n k given = omega (arith, given)

    room : (n k : ℕ) → (n + 1) + k ≤ (n + k) + 1
    room n k = omega arith

pub snapshot_of-once : (h : History) → WaitsOnce h.base → WaitsOnce (snapshot_of h)
snapshot_of-once h sound =
    record {
      keys = λ key. subst (λ n. n ≤ 1) (sym (number-map (λ w. has_key key w.item) kept (waiting_adds h))) (waiting-once h key sound);
      ordinals = all-map (λ w. w.ordinal ≤ ordinal_count h) kept (waiting_adds h) (all-mono _ _ (λ a q. q.1) (waiting_adds h) (all-filter (λ a. a.ordinal ≤ ordinal_count h) (is_waiting_add h) (all_adds h) (all-given h sound)));
    }
  where
    kept : Add → KeyWaits
    kept a = record { ordinal = a.ordinal; item = a.item; tries = vain_tries h a.item.key }
