-- How long the lines of an event are: far shorter than a block may be.
use Rattle.std.specs.Prelude.{ℕ, ◌+◌, ◌*◌, ◌≤◌, List, [], length}
use Rattle.crawl_kinds.specs.declared.event.Event.{Event}
use Rattle.crawl_kinds.specs.declared.event.Event.TheVariants.{Session, Seeds, Emit, Finish}
use Rattle.crawl_kinds.specs.Event.{adds_of}
use Rattle.journal_spec.specs.Journal.{spelling}
use Rattle.journal_valid.specs.Valid.{IsEvent}

-- the addresses that an event lists
abbrev pub list_of : Event → List (List ℕ)
list_of (Session time job format) = []
list_of (Seeds time list adds) = list
list_of (Emit time caller ticket verdict item) = []
list_of (Finish time caller ticket item end adds) = []

-- 10,000 bytes, and 5,000 for each address and each item that it adds
abbrev pub most_spelling : Event → ℕ
most_spelling e = 10000 + 5000 * (length (list_of e) + length (adds_of e))

-- the lines of a valid event are no longer than that
abbrev pub ValidIsShort : Type 0
ValidIsShort = (e : Event) → IsEvent e → length (spelling e) ≤ most_spelling e
