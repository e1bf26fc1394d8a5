-- Nothing that was found is lost.
--     found f a h e      the candidates in scope that the event e brings after h
--     times_queued h key      how often the key stands in the queues
--     is_kept h key      the key is done and in no queue, or waits and stands in one queue, once
--     Complete f a events      each candidate in scope is kept at the end
use Rattle.std.specs.Prelude.{ℕ, Bool, true, false, not, ◌&&◌, ◌==◌, List, [], ◌∷◌, map, filter, flat_map, bytes_eq, length, IsTrue, if◌then◌else◌}
use Rattle.std.specs.List.{list_all}
use Rattle.crawl_kinds.specs.declared.event.Place.{Place}
use Rattle.crawl_kinds.specs.declared.event.Place.TheVariants.{Absent, Waiting, Done}
use Rattle.crawl_kinds.specs.declared.event.Event.{Event}
use Rattle.crawl_kinds.specs.declared.event.Event.TheVariants.{Session, Seeds, Emit, Finish}
use Rattle.crawl_kinds.specs.declared.item.Item.{Item}
use Rattle.crawl_history.specs.Scans.{distinct}
use Rattle.crawl_history.specs.History.{History, history_of, with_event}
use Rattle.crawl_history.specs.Places.{place_of, has_key}
use Rattle.crawl_history.specs.Queues.{all_adds, queue}
use Rattle.crawl_history.specs.Outcomes.{is_success, is_prerequisite}
use Rattle.crawl_history.specs.Facts.{Facts, Archive}
use Rattle.crawl_history.specs.Adds.{seed_candidates, page_candidates}
use Rattle.crawl_history.specs.Scope.{is_in_scope}

-- what an event brings: its seeds, or the links of a page that was fetched
abbrev pub candidates : Facts → Archive → Event → List Item
candidates f a (Session time job format) = []
candidates f a (Seeds time list adds) = seed_candidates f list
candidates f a (Emit time caller ticket verdict item) = []
candidates f a (Finish time caller ticket item end adds) =
    if is_success end.outcome && not (is_prerequisite item)
    then page_candidates f a (record { time = time; caller = caller; ticket = ticket; item = item; end = end; adds = adds })
    else []

-- those that the scope takes
abbrev pub found : Facts → Archive → History → Event → List Item
found f a h e = filter (is_in_scope f h) (candidates f a e)

-- every class that ever had an item, once
abbrev pub queue_classes : History → List (List ℕ)
queue_classes h = distinct bytes_eq (map (λ a. a.item.class) (all_adds h))

-- how often the key stands in all queues together
abbrev pub times_queued : History → List ℕ → ℕ
times_queued h key = length (filter (has_key key) (flat_map (queue h) (queue_classes h)))

-- what waits is queued once, what is done never
abbrev pub is_kept_at : Place → ℕ → Bool
is_kept_at Absent n = false
is_kept_at Waiting n = n == 1
is_kept_at (Done code) n = n == 0

-- whether the key is kept
abbrev pub is_kept : History → List ℕ → Bool
is_kept h key = is_kept_at (place_of h key) (times_queued h key)

-- what each event found, after those before it, is kept in the last history
abbrev pub all_kept : Facts → Archive → History → History → List Event → Bool
all_kept f a last before [] = true
all_kept f a last before (e ∷ es) =
    list_all (λ i. is_kept last i.key) (found f a before e) && all_kept f a last (with_event before e) es

-- whether everything that was found is kept
abbrev pub is_complete : Facts → Archive → List Event → Bool
is_complete f a events = all_kept f a (history_of events) (history_of []) events

-- everything that was found is kept
abbrev pub Complete : Facts → Archive → List Event → Type 0
Complete f a events = IsTrue (is_complete f a events)
