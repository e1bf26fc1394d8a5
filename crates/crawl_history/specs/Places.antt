-- Where a key is: by the last event that adds or finishes it. An emit and a session change no place.
--     adds_key key e, finishes_key key e      whether the event adds the key, or finishes it
--     place_of h key      its place: nowhere, waiting, or done with a code
--     known_keys h      the keys that are somewhere, each once
use Rattle.std.specs.Prelude.{ℕ, Bool, true, false, List, ◌++◌, ◌||◌, map, flat_map, Option, Some, None, unwrap_or, option_map, bytes_eq, find, if◌then◌else◌}
use Rattle.std.specs.List.{list_any}
use Rattle.crawl_kinds.specs.declared.event.Place.{Place}
use Rattle.crawl_kinds.specs.declared.event.Place.TheVariants.{Absent, Waiting, Done}
use Rattle.crawl_kinds.specs.declared.event.Outcome.{Outcome}
use Rattle.crawl_kinds.specs.declared.event.Outcome.TheVariants.{Success, Failure, Disregard, Retry}
use Rattle.crawl_kinds.specs.declared.event.End.{End}
use Rattle.crawl_kinds.specs.declared.event.Event.{Event}
use Rattle.crawl_kinds.specs.declared.item.Item.{Item}
use Rattle.crawl_kinds.specs.declared.snapshot.Snapshot.{Snapshot}
use Rattle.crawl_kinds.specs.Event.{adds_of, finish_of, Finishing}
use Rattle.crawl_history.specs.Scans.{last_of, distinct}
use Rattle.crawl_history.specs.History.{History, finishes}

-- an item that is to be tried again waits, every other end is a disposition
abbrev pub place_after : Outcome → End → Place
place_after Success end = Done end.code
place_after Failure end = Done end.code
place_after Disregard end = Done end.code
place_after Retry end = Waiting

-- whether the item has the key
abbrev pub has_key : List ℕ → Item → Bool
has_key key item = bytes_eq item.key key

-- whether the event adds the key
abbrev pub adds_key : List ℕ → Event → Bool
adds_key key e = list_any (has_key key) (adds_of e)

-- whether this is a finish of the key
abbrev pub is_finish_of : List ℕ → Option Finishing → Bool
is_finish_of key None = false
is_finish_of key (Some c) = has_key key c.item

-- whether the event finishes the key
abbrev pub finishes_key : List ℕ → Event → Bool
finishes_key key e = is_finish_of key (finish_of e)

-- whether the event adds the key or finishes it
abbrev pub names_key : List ℕ → Event → Bool
names_key key e = adds_key key e || finishes_key key e

-- what a finish says of the key
abbrev pub place_by_finish : List ℕ → Option Finishing → Option Place
place_by_finish key None = None
place_by_finish key (Some c) = if has_key key c.item then Some (place_after c.end.outcome c.end) else None

-- what the event says of the key; an add stands after the finish of the same event
abbrev pub place_by : List ℕ → Event → Option Place
place_by key e = if adds_key key e then Some Waiting else place_by_finish key (finish_of e)

-- what the snapshot says of the key
abbrev pub place_in : Snapshot → List ℕ → Place
place_in base key =
    if list_any (λ w. has_key key w.item) base.waiting
    then Waiting
    else unwrap_or (option_map (λ d. Done d.code) (find (λ d. bytes_eq d.key key) base.finished)) Absent

-- the place of the key
abbrev pub place_of : History → List ℕ → Place
place_of h key = unwrap_or (last_of (place_by key) h.events) (place_in h.base key)

-- whether the place is nowhere
abbrev pub is_absent : Place → Bool
is_absent Absent = true
is_absent Waiting = false
is_absent (Done code) = false

-- whether the place is among those that wait
abbrev pub is_waiting : Place → Bool
is_waiting Absent = false
is_waiting Waiting = true
is_waiting (Done code) = false

-- the keys that are somewhere: each that the snapshot keeps or an event adds or finishes, once
abbrev pub known_keys : History → List (List ℕ)
known_keys h =
    distinct bytes_eq
    (map (λ d. d.key) h.base.finished
    ++ map (λ w. w.item.key) h.base.waiting
    ++ map (λ i. i.key) (flat_map adds_of h.events)
    ++ map (λ c. c.item.key) (finishes h))
