-- The adds that are kept as waiting.
--     add_in known      the add of what waits
--     kept_adds places      all of them, by key
--     IsQueued places items      their items in the order in which they stand
use Rattle.std.specs.Prelude.{◌≡◌, List, map, filter_map, Option, Some, None, ℕ}
use Rattle.std.specs.Ordering.{is_lt}
use Rattle.std.specs.BTreeMap.{BTreeMap, values}
use Rattle.std.specs.List.Sorted.{IsPermutation, IsSortedBy}
use Rattle.crawl_kinds.specs.declared.item.Item.{Item}
use Rattle.crawl_history.specs.Queues.{Add}
use Rattle.frontier_core.specs.Waiting.{queue_order}
use Rattle.frontier_core.specs.declared.waiting.Turn.{Turn}
use Rattle.frontier_memo.specs.Keeping.{add_of}
use Rattle.frontier_memo.specs.declared.known.Known.{Known}
use Rattle.frontier_memo.specs.declared.known.Known.TheVariants as known

-- the add of what waits
abbrev pub add_in : Known → Option Add
add_in (known.Waits w) = Some (add_of w)
add_in (known.Done code) = None

-- the adds of all that waits, by key
abbrev pub kept_adds : BTreeMap (List ℕ) Known → List Add
kept_adds places = filter_map add_in (values places)

-- the add of a turn
abbrev pub turn_add : Turn → Add
turn_add turn = record { ordinal = turn.ordinal; item = turn.item }

-- these are the items of all that waits, none behind one that stands after it
pub record IsQueued (places : BTreeMap (List ℕ) Known) (items : List Item) : Type 0 where
  pub adds : List Add
  pub of : items ≡ map (λ a. a.item) adds
  pub same : IsPermutation (kept_adds places) adds
  pub sorted : IsSortedBy (λ x y. is_lt (queue_order x y)) adds
