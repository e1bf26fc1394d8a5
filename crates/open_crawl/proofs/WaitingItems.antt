-- The items that wait after valid events are valid.
use Rattle.std.proofs.Common.{ℕ, ◌+◌, List, [], ◌∷◌, ◌++◌, All, sym, subst}
use Rattle.std.specs.Prelude.{map, filter, flat_map}
use Rattle.std.specs.List.{AllByRecursion}
use Rattle.std.proofs.lemmas.List.Elements.{All-filter, All-map, All-from_recursion}
use Rattle.std.proofs.lemmas.List.Sorted.{All-permutation}
use Rattle.crawl_kinds.specs.Event.{adds_of}
use Rattle.crawl_kinds.specs.declared.event.Event.{Event}
use Rattle.crawl_kinds.specs.declared.event.Event.TheVariants.{Session, Seeds, Emit, Finish}
use Rattle.crawl_kinds.specs.declared.item.Item.{Item}
use Rattle.crawl_history.specs.History.{history_of}
use Rattle.crawl_history.specs.Queues.{Add, adds_from, all_adds, waiting_adds, is_waiting_add}
use Rattle.frontier_core.specs.Waiting.{IsWaitingList}
use Rattle.journal_valid.specs.Items.{IsItem, IsAdd}
use Rattle.journal_valid.specs.Valid.{IsEvent}

all_both : {X : Type 0} (P : X → Type 0) (xs ys : List X) → AllByRecursion P xs → AllByRecursion P ys → AllByRecursion P (xs ++ ys)
all_both P [] ys front back = back
all_both P (x ∷ xs) ys front back = (front.0, all_both P xs ys front.1 back)

-- what a valid event adds
added_valid : (e : Event) → IsEvent e → AllByRecursion IsAdd (adds_of e)
added_valid (Session time job format) is = tt
added_valid (Seeds time list adds) is = is.2
added_valid (Emit time caller ticket verdict item) is = tt
added_valid (Finish time caller ticket item end adds) is = is.3

all_added : (events : List Event) → AllByRecursion IsEvent events → AllByRecursion IsAdd (flat_map adds_of events)
all_added [] valid = tt
all_added (e ∷ events) valid = all_both IsAdd (adds_of e) (flat_map adds_of events) (added_valid e valid.0) (all_added events valid.1)

numbered : (n : ℕ) (items : List Item) → AllByRecursion IsAdd items → AllByRecursion (λ (a : Add). IsItem a.item) (adds_from n items)
numbered n [] valid = tt
numbered n (item ∷ items) valid = (valid.0.named, numbered (n + 1) items valid.1)

pub waiting_valid : (events : List Event) (items : List Item) → AllByRecursion IsEvent events → IsWaitingList (history_of events) items → All IsItem items
waiting_valid events items valid list =
    let h = history_of events in
    let P : Add → Type 0 = λ a. IsItem a.item in
    let adds : All P (all_adds h) = All-from_recursion P (all_adds h) (numbered 1 (flat_map adds_of events) (all_added events valid)) in
    let kept : All P list.adds = All-permutation P (waiting_adds h) list.adds list.same (All-filter (is_waiting_add h) P (all_adds h) adds) in
    subst (All IsItem) (sym list.of) (All-map IsItem (λ (a : Add). a.item) list.adds kept)
