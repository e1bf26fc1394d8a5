-- What is kept of keys, in place of a scan over the events.
--     known_at places key      what is kept of the key
--     place_by kept, waiting_by kept, waits_by kept, code_by kept      what that says
--     after_adds n items key kept, after_finish item end key kept      what is kept after these adds, after this finish
--     are_free waits earlier items      no item is added while its key waits
use Rattle.std.specs.Prelude.{ℕ, ◌+◌, ℤ, Bool, true, false, not, ◌&&◌, ◌||◌, List, [], ◌∷◌, ◌++◌, Option, Some, None, option_map, if◌then◌else◌}
use Rattle.std.specs.List.{list_any}
use Rattle.std.specs.Option.{option_or}
use Rattle.std.specs.Ordering.{nat_cmp, int_eq}
use Rattle.std.specs.Cmp.Lexicographic.{slice_cmp}
use Rattle.std.specs.BTreeMap.{BTreeMap, get}
use Rattle.crawl_kinds.specs.declared.event.End.{End}
use Rattle.crawl_kinds.specs.declared.event.Place.{Place}
use Rattle.crawl_kinds.specs.declared.event.Place.TheVariants as place
use Rattle.crawl_kinds.specs.declared.item.Item.{Item}
use Rattle.crawl_history.specs.Codes.{robots_needed}
use Rattle.crawl_history.specs.Outcomes.{is_retry}
use Rattle.crawl_history.specs.Scans.{last_of}
use Rattle.crawl_history.specs.Places.{has_key}
use Rattle.crawl_history.specs.Queues.{Add, adds_from}
use Rattle.frontier_memo.specs.declared.known.Known.{Known}
use Rattle.frontier_memo.specs.declared.known.Known.TheVariants as known
use Rattle.frontier_memo.specs.declared.known.Waiting.{Waiting}
use Rattle.frontier_memo.specs.Sums.{saturated}

-- what is kept of the key
abbrev pub known_at : BTreeMap (List ℕ) Known → List ℕ → Option Known
known_at places key = get (slice_cmp nat_cmp) places key

-- the place that it says
abbrev pub place_by : Option Known → Place
place_by None = place.Absent
place_by (Some (known.Waits w)) = place.Waiting
place_by (Some (known.Done code)) = place.Done code

-- what waits
abbrev pub waiting_by : Option Known → Option Waiting
waiting_by None = None
waiting_by (Some (known.Waits w)) = Some w
waiting_by (Some (known.Done code)) = None

-- whether something waits
abbrev pub waits_by : Option Known → Bool
waits_by None = false
waits_by (Some (known.Waits w)) = true
waits_by (Some (known.Done code)) = false

-- the code of what is done
abbrev pub code_by : Option Known → Option ℤ
code_by None = None
code_by (Some (known.Waits w)) = None
code_by (Some (known.Done code)) = Some code

-- the add of what waits
abbrev pub add_of : Waiting → Add
add_of w = record { ordinal = w.ordinal; item = w.item }

-- what is kept of an add
abbrev pub added_by : Add → Known
added_by a = known.Waits (record { item = a.item; ordinal = a.ordinal; tries = 0 })

-- the add, where it has the key
abbrev pub add_at : List ℕ → Add → Option Add
add_at key a = if has_key key a.item then Some a else None

-- what is kept of a key after these items were added with the ordinals behind n
abbrev pub after_adds : ℕ → List Item → List ℕ → Option Known → Option Known
after_adds n items key kept = option_or (option_map added_by (last_of (add_at key) (adds_from (n + 1) items))) kept

-- what is kept of an item after a try in vain; one that needs its robots file was not tried
abbrev pub tried : End → Known → Known
tried end (known.Waits w) =
    if int_eq end.code robots_needed
    then known.Waits w
    else known.Waits (record { item = w.item; ordinal = w.ordinal; tries = saturated (w.tries + 1) })
tried end (known.Done code) = known.Done code

-- what is kept of an item after its end
abbrev pub ended : End → Known → Known
ended end kept = if is_retry end.outcome then tried end kept else known.Done end.code

-- what is kept of a key of which something was kept, after this item came to this end
abbrev pub after_finish : Item → End → List ℕ → Option Known → Option Known
after_finish item end key kept = if has_key key item then option_map (ended end) kept else kept

-- the key of no item waits when its turn comes, after the earlier ones
abbrev pub are_free : (List ℕ → Bool) → List Item → List Item → Bool
are_free waits earlier [] = true
are_free waits earlier (item ∷ items) =
    not (list_any (has_key item.key) earlier || waits item.key) && are_free waits (earlier ++ item ∷ []) items
