-- What follows for events whose items are free, from definitions alone.
--     FinishesWaiting h e      where the event is a finish, the key of its item waits
--     FreeAddsFit      items that are free may be added
--     KeysGrow      as many keys more are known as keys of theirs were nowhere
use Rattle.std.specs.Prelude.{◌≡◌, ◌+◌, Bool, true, List, [], ◌∷◌, ◌++◌, IfSome, length, count_by}
use Rattle.crawl_kinds.specs.declared.event.Event.{Event}
use Rattle.crawl_kinds.specs.declared.item.Item.{Item}
use Rattle.crawl_kinds.specs.Event.{adds_of, finish_of}
use Rattle.crawl_history.specs.History.{History, history_of}
use Rattle.crawl_history.specs.Places.{place_of, is_absent, is_waiting, known_keys}
use Rattle.frontier_memo.specs.Fits.{AddsFit}
use Rattle.frontier_memo.specs.Keeping.{are_free}

-- no key of these items waits, and each has its own
abbrev pub are_new : History → List Item → Bool
are_new h items = are_free (λ key. is_waiting (place_of h key)) [] items

-- where the event is a finish, the key of its item waits
abbrev pub FinishesWaiting : History → Event → Type 0
FinishesWaiting h e = IfSome (finish_of e) (λ c. is_waiting (place_of h c.item.key) ≡ true)

-- items that are free may be added
abbrev pub FreeAddsFit : Type 0
FreeAddsFit = (h : History) (e : Event) → FinishesWaiting h e → are_new h (adds_of e) ≡ true → AddsFit h e

-- as many keys more are known as keys of theirs were nowhere
abbrev pub KeysGrow : Type 0
KeysGrow =
    (events : List Event) (e : Event) → FinishesWaiting (history_of events) e → are_new (history_of events) (adds_of e) ≡ true
    → length (known_keys (history_of (events ++ e ∷ [])))
    ≡ length (known_keys (history_of events)) + count_by (λ i. is_absent (place_of (history_of events) i.key)) (adds_of e)
