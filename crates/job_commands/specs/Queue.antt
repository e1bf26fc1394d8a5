-- What `enqueue` prints: the items that wait.
--     queue_text items      a line for each
--     IsShown events text      the lines of what waits after these events
use Rattle.std.specs.Prelude.{◌≡◌, ℕ, List, ◌++◌, codes}
use Rattle.std.specs.List.{flat_map}
use Rattle.crawl_kinds.specs.declared.item.Item.{Item}
use Rattle.crawl_kinds.specs.declared.event.Event.{Event}
use Rattle.crawl_history.specs.History.{history_of}
use Rattle.frontier_core.specs.Waiting.{IsWaitingList}

-- CLASS URI
abbrev pub queue_line : Item → List ℕ
queue_line item = item.class ++ codes " " ++ item.uri ++ codes "\n"

abbrev pub queue_text : List Item → List ℕ
queue_text items = flat_map queue_line items

-- the lines of what waits after these events: classes in byte order, those of a class in its queue's order
pub record IsShown (events : List Event) (text : List ℕ) : Type 0 where
  pub items : List Item
  pub wait : IsWaitingList (history_of events) items
  pub is : text ≡ queue_text items
