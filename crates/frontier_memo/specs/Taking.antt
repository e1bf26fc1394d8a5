-- What the taking in of one event more tells.
use Rattle.std.specs.Prelude.{◌≡◌, ℕ, ◌+◌, ◌==◌, Bool, true, false, List, Option, Some, find, option_map}
use Rattle.std.specs.List.{list_any}
use Rattle.crawl_kinds.specs.declared.item.Item.{Item}
use Rattle.crawl_kinds.specs.declared.event.Event.{Event}
use Rattle.crawl_history.specs.History.{History, with_event}
use Rattle.crawl_history.specs.Places.{has_key}
use Rattle.frontier_memo.specs.declared.memo.Memo.{Memo}
use Rattle.frontier_memo.specs.declared.session.Out.{Out}
use Rattle.frontier_memo.specs.Fits.{Fits}
use Rattle.frontier_memo.specs.Keeping.{known_at, waiting_by, waits_by}
use Rattle.frontier_memo.specs.Memory.{Remembers}

-- by what is kept, an emit of this ticket and item may stand
pub record MayEmit (memo : Memo) (ticket : ℕ) (item : Item) : Type 0 where
  pub next : ticket ≡ memo.tickets + 1
  pub waits : option_map (λ w. w.item) (waiting_by (known_at memo.places item.key)) ≡ Some item
  pub idle : list_any (λ o. has_key item.key o.item) memo.session.out.items ≡ false

-- the item of a ticket that is out. It unfolds only where a proof asks for it.
unfoldable pub item_under : ℕ → List Out → Option Item
item_under ticket out = option_map (λ o. o.item) (find (λ o. o.ticket == ticket) out)

-- by what is kept, a finish of this ticket and item may stand
pub record MayFinish (memo : Memo) (ticket : ℕ) (item : Item) : Type 0 where
  pub out : item_under ticket memo.session.out.items ≡ Some item
  pub waits : waits_by (known_at memo.places item.key) ≡ true

-- one event more was taken in: it may stand, and what is kept is what the history says with it; or it may not
abbrev pub Takes : History → Event → Memo → Bool → Type 0
Takes h e new true = Fits h e × Remembers (with_event h e) new
Takes h e new false = ¬ Fits h e
