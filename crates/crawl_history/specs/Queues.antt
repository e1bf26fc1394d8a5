-- The queues of the hosts. Every add has an ordinal, counted from 1 over the whole history.
--     all_adds h      the adds in their order; where the history is based, those that waited there and then its own
--     waiting_adds h      the last add of each key that waits
--     queue h class      the waiting items of the class by rank, and within a rank in the order of their adds
--     waiting_classes h      the classes with a waiting item, each once
use Rattle.std.specs.Prelude.{ℕ, ◌+◌, Bool, ◌&&◌, nat_le, ◌==◌, List, [], ◌∷◌, ◌++◌, map, filter, flat_map, length, Option, Some, None, unwrap_or, bytes_eq, if◌then◌else◌}
use Rattle.std.specs.List.{list_any}
use Rattle.crawl_kinds.specs.declared.item.Item.{Item}
use Rattle.crawl_kinds.specs.Event.{adds_of}
use Rattle.crawl_history.specs.Scans.{last_of, distinct}
use Rattle.crawl_history.specs.History.{History}
use Rattle.crawl_history.specs.Places.{place_of, is_waiting, has_key}

-- an item that was added, with the ordinal of the add
pub record Add : Type 0 where
  pub ordinal : ℕ
  pub item : Item

-- adds of these items, with ordinals from n on
abbrev pub adds_from : ℕ → List Item → List Add
adds_from n [] = []
adds_from n (x ∷ xs) = record { ordinal = n; item = x } ∷ adds_from (n + 1) xs

-- how many ordinals were given: one to each add
abbrev pub ordinal_count : History → ℕ
ordinal_count h = h.base.ordinals + length (flat_map adds_of h.events)

-- those that waited in the snapshot, and then those of the events
abbrev pub all_adds : History → List Add
all_adds h =
    map (λ w. record { ordinal = w.ordinal; item = w.item }) h.base.waiting
    ++ adds_from (h.base.ordinals + 1) (flat_map adds_of h.events)

-- whether the history adds the key
abbrev pub has_add : History → List ℕ → Bool
has_add h key = list_any (λ a. has_key key a.item) (all_adds h)

-- the ordinal of the add, where it adds the key
abbrev pub ordinal_at : List ℕ → Add → Option ℕ
ordinal_at key a = if has_key key a.item then Some a.ordinal else None

-- the ordinal of the key's last add
abbrev pub ordinal_of : History → List ℕ → ℕ
ordinal_of h key = unwrap_or (last_of (ordinal_at key) (all_adds h)) 0

-- whether this add is the last one of its key, and the key waits
abbrev pub is_waiting_add : History → Add → Bool
is_waiting_add h a = is_waiting (place_of h a.item.key) && a.ordinal == ordinal_of h a.item.key

-- the adds that wait, by ordinal
abbrev pub waiting_adds : History → List Add
waiting_adds h = filter (is_waiting_add h) (all_adds h)

-- whether the item is of the class
abbrev pub in_class : List ℕ → Item → Bool
in_class class item = bytes_eq item.class class

-- the item put before the first one of its own rank or a greater one
abbrev pub put_by_rank : Item → List Item → List Item
put_by_rank x [] = x ∷ []
put_by_rank x (y ∷ ys) = if nat_le x.rank y.rank then x ∷ y ∷ ys else y ∷ put_by_rank x ys

-- the items by rank, those of one rank in their order
abbrev pub in_rank_order : List Item → List Item
in_rank_order [] = []
in_rank_order (x ∷ xs) = put_by_rank x (in_rank_order xs)

-- the queue of the class
abbrev pub queue : History → List ℕ → List Item
queue h class = in_rank_order (filter (in_class class) (map (λ a. a.item) (waiting_adds h)))

-- the classes with a waiting item, each once
abbrev pub waiting_classes : History → List (List ℕ)
waiting_classes h = distinct bytes_eq (map (λ a. a.item.class) (waiting_adds h))
