-- The items that wait, in the order in which they stand.
--     queue_order x y      which of two adds stands first
--     IsWaitingList h items      the items are those that wait, in this order
use Rattle.std.specs.Prelude.{◌≡◌, List, map}
use Rattle.std.specs.Ordering.{nat_cmp, ordering_then}
use Rattle.std.specs.declared.cmp.Ordering.{Ordering}
use Rattle.std.specs.Cmp.Lexicographic.{slice_cmp}
use Rattle.std.specs.List.Sorted.{IsPermutation, IsStrictlySortedBy}
use Rattle.crawl_kinds.specs.declared.item.Item.{Item}
use Rattle.crawl_history.specs.History.{History}
use Rattle.crawl_history.specs.Queues.{Add, waiting_adds}

-- classes in byte order, within a class by rank, and within a rank by ordinal
abbrev pub queue_order : Add → Add → Ordering
queue_order x y =
    ordering_then (slice_cmp nat_cmp x.item.class y.item.class)
    (ordering_then (nat_cmp x.item.rank y.item.rank) (nat_cmp x.ordinal y.ordinal))

-- the items of all adds that wait, each before those behind it
pub record IsWaitingList (h : History) (items : List Item) : Type 0 where
  pub adds : List Add
  pub of : items ≡ map (λ a. a.item) adds
  pub same : IsPermutation (waiting_adds h) adds
  pub ordered : IsStrictlySortedBy queue_order adds
