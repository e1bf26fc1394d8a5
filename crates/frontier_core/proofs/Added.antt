-- What holds of each item that is added holds of the one with which a key was added last.
use Rattle.std.proofs.Common.{◌≡◌, ℕ, ◌+◌, Bool, true, false, List, [], ◌∷◌, Option, Some, None, subst}
use Rattle.std.specs.Prelude.{if◌then◌else◌}
use Rattle.std.specs.List.{AllByRecursion}
use Rattle.std.specs.Option.{option_or}
use Rattle.crawl_kinds.specs.declared.item.Item.{Item}
use Rattle.crawl_history.specs.Places.{has_key}
use Rattle.crawl_history.specs.Queues.{Add, adds_from}
use Rattle.crawl_history.specs.Scans.{last_of}
use Rattle.frontier_memo.specs.Fits.{item_at}

pub numbered : (P : Item → Type 0) (n : ℕ) (items : List Item) → AllByRecursion P items → AllByRecursion (λ (x : Add). P x.item) (adds_from n items)
numbered P n [] all = tt
numbered P n (x ∷ items) all = (all.0, numbered P (n + 1) items all.1)

pub of_last : (P : Item → Type 0) (key : List ℕ) (adds : List Add) (item : Item) → AllByRecursion (λ (x : Add). P x.item) adds → last_of (λ x. item_at key x.item) adds ≡ Some item → P item
of_last P key [] item all e = cc
of_last P key (x ∷ adds) item all e = by_last (last_of (λ x. item_at key x.item) adds) (has_key key x.item) e (of_last P key adds item all.1)
  where
    by_last : (o : Option Item) (b : Bool) → option_or o (if b then Some x.item else None) ≡ Some item → (o ≡ Some item → P item) → P item
    by_last (Some y) b e more = more e
    by_last None true e more = let same : x.item ≡ item = cc in subst P same all.0
    by_last None false e more = cc
