-- Which event may stand after a history, whatever the pages were. Sessions and seeds always may, as far as they add no item
-- that waits.
--     last_added h key      the item with which the key was last added
--     Fits h e      the event e may stand after h
--     AllFit events      each event may stand after those before it
--     IsFirstUnfit events i      the event at i is the first that may not
use Rattle.std.specs.Prelude.{◌≡◌, ℕ, ◌+◌, true, false, List, ◌∷◌, ◌++◌, take, slice_get, Option, Some, None, unwrap_or, option_map, if◌then◌else◌, ⊤}
use Rattle.std.specs.List.{list_any}
use Rattle.crawl_kinds.specs.declared.event.Place.{Place}
use Rattle.crawl_kinds.specs.declared.event.Place.TheVariants.{Waiting}
use Rattle.crawl_kinds.specs.declared.event.Event.{Event}
use Rattle.crawl_kinds.specs.declared.event.Event.TheVariants.{Session, Seeds, Emit, Finish}
use Rattle.crawl_kinds.specs.declared.item.Item.{Item}
use Rattle.crawl_kinds.specs.Event.{adds_of, finish_of}
use Rattle.crawl_history.specs.Scans.{last_of}
use Rattle.crawl_history.specs.History.{History, history_of, ticket_count}
use Rattle.crawl_history.specs.Places.{place_of, place_by_finish, is_waiting, has_key}
use Rattle.crawl_history.specs.Queues.{all_adds}
use Rattle.crawl_history.specs.Tickets.{emits_out, emit_out}

-- the item, where it has the key
abbrev pub item_at : List ℕ → Item → Option Item
item_at key item = if has_key key item then Some item else None

-- the item with which the key was last added
abbrev pub last_added : History → List ℕ → Option Item
last_added h key = last_of (λ a. item_at key a.item) (all_adds h)

-- where the key is when the event adds an item, after the event's own finish and these adds of it
abbrev pub place_at_add : History → Event → List Item → List ℕ → Place
place_at_add h e earlier key =
    if list_any (has_key key) earlier then Waiting else unwrap_or (place_by_finish key (finish_of e)) (place_of h key)

-- no item is added while its key waits
abbrev pub AddsFit : History → Event → Type 0
AddsFit h e =
    (earlier later : List Item) (item : Item) → adds_of e ≡ earlier ++ item ∷ later
    → is_waiting (place_at_add h e earlier item.key) ≡ false

-- an emit of this ticket and item may stand after h
pub record EmitFits (h : History) (ticket : ℕ) (item : Item) : Type 0 where
  -- it has the next ticket
  pub next : ticket ≡ ticket_count h + 1
  -- the item waits: its key does, and was last added with it
  pub waits : is_waiting (place_of h item.key) ≡ true
  pub added : last_added h item.key ≡ Some item
  -- nothing of that key is out
  pub idle : list_any (λ m. has_key item.key m.item) (emits_out h) ≡ false

-- a finish of this ticket and item may stand after h
pub record FinishFits (h : History) (ticket : ℕ) (item : Item) : Type 0 where
  -- the ticket is out, with that item
  pub out : option_map (λ m. m.item) (emit_out h ticket) ≡ Some item
  -- the key of the item waits
  pub waits : is_waiting (place_of h item.key) ≡ true

-- what h asks of an event of this kind
abbrev pub KindFits : History → Event → Type 0
KindFits h (Session time job format) = ⊤
KindFits h (Seeds time list adds) = ⊤
KindFits h (Emit time caller ticket verdict item) = EmitFits h ticket item
KindFits h (Finish time caller ticket item end adds) = FinishFits h ticket item

-- the event may stand after h
pub record Fits (h : History) (e : Event) : Type 0 where
  pub kind : KindFits h e
  pub adds : AddsFit h e

-- each event may stand after those before it
abbrev pub AllFit : List Event → Type 0
AllFit events = (i : ℕ) (e : Event) → slice_get events i ≡ Some e → Fits (history_of (take i events)) e

-- the event at i may not stand after those before it, and each of those may
pub record IsFirstUnfit (events : List Event) (i : ℕ) : Type 0 where
  pub event : Event
  pub stands : slice_get events i ≡ Some event
  pub unfit : ¬ Fits (history_of (take i events)) event
  pub before : AllFit (take i events)
