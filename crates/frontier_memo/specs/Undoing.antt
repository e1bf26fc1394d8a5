-- How adds are taken back.
--     undone item code key kept, undone_all items code key kept      what is kept of the key then
use Rattle.std.specs.Prelude.{ℕ, ℤ, List, Option, Some, None, option_map, if◌then◌else◌}
use Rattle.std.specs.List.{list_any}
use Rattle.crawl_kinds.specs.declared.item.Item.{Item}
use Rattle.crawl_history.specs.Places.{has_key}
use Rattle.frontier_memo.specs.declared.known.Known.{Known}
use Rattle.frontier_memo.specs.declared.known.Known.TheVariants as known

-- done with this code, where something is kept, or nothing
abbrev pub done_again : Option ℤ → Option Known → Option Known
done_again None kept = None
done_again (Some code) kept = option_map (λ _. known.Done code) kept

-- of the item's key, what was before its add; of another key what is kept
abbrev pub undone : Item → Option ℤ → List ℕ → Option Known → Option Known
undone item code key kept = if has_key key item then done_again code kept else kept

-- of a key of these items, what was before their adds; of another key what is kept
abbrev pub undone_all : List Item → Option ℤ → List ℕ → Option Known → Option Known
undone_all items code key kept = if list_any (has_key key) items then done_again code kept else kept
