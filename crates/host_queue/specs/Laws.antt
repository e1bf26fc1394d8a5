-- What the order of a queue is, whatever its entries are.
--     OneOrder      the same entries stand in one order
--     InRankOrder      adds, each with a greater ordinal than those before it, stand as the history's queues have them
use Rattle.std.specs.Prelude.{◌≡◌, List, map}
use Rattle.std.specs.List.Sorted.{IsPermutation, IsStrictlyIncreasing}
use Rattle.crawl_history.specs.Queues.{Add, in_rank_order}
use Rattle.host_queue.specs.Queue.{Entry, IsInOrder}

-- the entry of an add
abbrev pub entry_of : Add → Entry
entry_of a = (a.item, a.ordinal)

-- two queues with the same entries are one
abbrev pub OneOrder : Type 0
OneOrder = (xs ys : List Entry) → IsInOrder xs → IsInOrder ys → IsPermutation xs ys → xs ≡ ys

-- the items of a queue whose entries are these adds
abbrev pub InRankOrder : Type 0
InRankOrder =
    (adds : List Add) (entries : List Entry)
    → IsStrictlyIncreasing (map (λ a. a.ordinal) adds)
    → IsInOrder entries
    → IsPermutation (map entry_of adds) entries
    → map (λ e. e.0) entries ≡ in_rank_order (map (λ a. a.item) adds)
