-- How a line joins the events of the lines before it.
--     may_seed e, may_add e      whether such a line may stand behind the lines of e
--     Grows, Joins      what a line makes of an event, and of a list of events
--     Follows, Continues      what the fields behind a tag make of a list of events, and what a text does
use Rattle.std.specs.Prelude.{◌≡◌, ◌≢◌, ℕ, Bool, true, false, List, [], ◌∷◌, ◌++◌, Result, Ok, Err, flat_map}
use Rattle.crawl_kinds.specs.declared.event.Event.{Event}
use Rattle.crawl_kinds.specs.declared.event.Event.TheVariants.{Session, Seeds, Emit, Finish}
use Rattle.journal_read.specs.declared.fault.Misread.{Misread}
use Rattle.journal_read.specs.declared.fault.Misread.TheVariants.{Bad, NoMemory}
use Rattle.journal_read.specs.declared.line.Line.{Line}
use Rattle.journal_read.specs.Lines.{IsLineOf, IsTagged, lines_of, rest_of}

-- seeds are given before items are added
abbrev pub may_seed : Event → Bool
may_seed (Session time job format) = false
may_seed (Seeds time list []) = true
may_seed (Seeds time list (item ∷ adds)) = false
may_seed (Emit time caller ticket verdict item) = false
may_seed (Finish time caller ticket item end adds) = false

-- seeds and the end of an item add items
abbrev pub may_add : Event → Bool
may_add (Session time job format) = false
may_add (Seeds time list adds) = true
may_add (Emit time caller ticket verdict item) = false
may_add (Finish time caller ticket item end adds) = true

-- an event has one line more, or Bad where it may not
abbrev pub Grows : Bool → Line → Event → Event → Result (Unit {0}) Misread → Type 0
Grows may l old new (Ok done) = lines_of new ≡ lines_of old ++ l ∷ []
Grows may l old new (Err Bad) = may ≡ false
Grows may l old new (Err NoMemory) = Unit {0}

-- events have one line more, or Bad where no events have these lines
abbrev pub Joins : Line → List Event → List Event → Result (Unit {0}) Misread → Type 0
Joins l old new (Ok done) = flat_map lines_of new ≡ flat_map lines_of old ++ l ∷ []
Joins l old new (Err Bad) = (events : List Event) → flat_map lines_of events ≢ flat_map lines_of old ++ l ∷ []
Joins l old new (Err NoMemory) = Unit {0}

-- fields are those behind the tag of an allowed line with which events have one line more, or Bad where they are none
abbrev pub Follows : List ℕ → List (List ℕ) → List Event → List Event → Result (Unit {0}) Misread → Type 0
Follows tag fields old new (Ok done) = (l : Line) × IsTagged tag l × (fields ≡ rest_of l) × (flat_map lines_of new ≡ flat_map lines_of old ++ l ∷ [])
Follows tag fields old new (Err Bad) = (l : Line) → IsTagged tag l → fields ≡ rest_of l → (events : List Event) → flat_map lines_of events ≢ flat_map lines_of old ++ l ∷ []
Follows tag fields old new (Err NoMemory) = Unit {0}

-- a text is an allowed line with which events have one line more, or Bad where it is none
abbrev pub Continues : List ℕ → List Event → List Event → Result (Unit {0}) Misread → Type 0
Continues text old new (Ok done) = (l : Line) × IsLineOf text l × (flat_map lines_of new ≡ flat_map lines_of old ++ l ∷ [])
Continues text old new (Err Bad) = (l : Line) → IsLineOf text l → (events : List Event) → flat_map lines_of events ≢ flat_map lines_of old ++ l ∷ []
Continues text old new (Err NoMemory) = Unit {0}
