-- The lines of the journal as values, and the lines of an event.
--     fields_of l, IsLine l      the fields of a line, and whether it is allowed
--     IsTagged tag l, IsLineOf text l      an allowed line with this tag, and the one that this text spells, but for its end
--     lines_of e      the lines of an event
use Rattle.std.specs.Prelude.{◌≡◌, ℕ, ℤ, pos, negsuc, suc, ◌≤◌, Bool, nat_le, List, [], ◌∷◌, ◌++◌, map, codes}
use Rattle.std.specs.Fmt.{decimal}
use Rattle.std.specs.List.{join_with_byte}
use Rattle.crawl_kinds.specs.declared.event.TheConstants.{MAX_MS}
use Rattle.crawl_kinds.specs.declared.event.Event.{Event}
use Rattle.crawl_kinds.specs.declared.event.Event.TheVariants.{Session as SessionEvent, Seeds as SeedsEvent, Emit as EmitEvent, Finish as FinishEvent}
use Rattle.journal_spec.specs.Fields.{item_fields, ticket_fields, verdict_field, outcome_tag, end_fields}
use Rattle.journal_spec.specs.Journal.{line, space}
use Rattle.journal_valid.specs.Items.{IsAddress, IsItem, IsAdd}
use Rattle.journal_valid.specs.Ends.{IsEnd}
use Rattle.journal_valid.specs.Valid.{IsSession, IsTicket}
use Rattle.journal_read.specs.declared.line.Line.{Line}
use Rattle.journal_read.specs.declared.line.Line.TheVariants.{Session, Seeds, Seed, Add, Emit, Finish}

-- a code that a line can name, from -9998 to 999
abbrev pub is_code : ℤ → Bool
is_code (pos n) = nat_le n 999
is_code (negsuc n) = nat_le n 9997

-- the digits spell a code from 0 on
abbrev pub IsPlainCode : List ℕ → ℤ → Type 0
IsPlainCode digits (pos n) = (digits ≡ decimal n) × (n ≤ 999)
IsPlainCode digits (negsuc n) = ⊥

-- the digits spell a code below 0, but for its minus
abbrev pub IsMinusCode : List ℕ → ℤ → Type 0
IsMinusCode digits (pos n) = ⊥
IsMinusCode digits (negsuc n) = (digits ≡ decimal (suc n)) × (n ≤ 9997)

-- the first field of a line
abbrev pub tag_of : Line → List ℕ
tag_of (Session time job format) = codes "S+"
tag_of (Seeds time) = codes "S*"
tag_of (Seed uri) = codes "Sd"
tag_of (Add item) = codes "F+"
tag_of (Emit time caller ticket verdict item) = codes "Fe"
tag_of (Finish time caller ticket item end) = outcome_tag end.outcome

-- the fields behind the tag
abbrev pub rest_of : Line → List (List ℕ)
rest_of (Session time job format) = decimal time ∷ job ∷ decimal format ∷ []
rest_of (Seeds time) = decimal time ∷ []
rest_of (Seed uri) = uri ∷ []
rest_of (Add item) = item_fields item
rest_of (Emit time caller ticket verdict item) = item_fields item ++ ticket_fields time caller ticket ++ verdict_field verdict ∷ []
rest_of (Finish time caller ticket item end) = item_fields item ++ ticket_fields time caller ticket ++ end_fields end

-- the fields of a line
abbrev pub fields_of : Line → List (List ℕ)
fields_of l = tag_of l ∷ rest_of l

-- the text of a line
abbrev pub text_of : Line → List ℕ
text_of l = line (fields_of l)

-- an allowed line
abbrev pub IsLine : Line → Type 0
IsLine (Session time job format) = (time ≤ MAX_MS) × IsSession job format
IsLine (Seeds time) = time ≤ MAX_MS
IsLine (Seed uri) = IsAddress uri
IsLine (Add item) = IsAdd item
IsLine (Emit time caller ticket verdict item) = IsTicket time caller ticket × IsItem item
IsLine (Finish time caller ticket item end) = IsTicket time caller ticket × IsItem item × IsEnd end

-- an allowed line with this tag
abbrev pub IsTagged : List ℕ → Line → Type 0
IsTagged tag l = IsLine l × (tag ≡ tag_of l)

-- the allowed line that a text spells, but for the line feed at its end
abbrev pub IsLineOf : List ℕ → Line → Type 0
IsLineOf text l = IsLine l × (text ≡ join_with_byte space (fields_of l))

-- the lines of an event
abbrev pub lines_of : Event → List Line
lines_of (SessionEvent time job format) = Session time job format ∷ []
lines_of (SeedsEvent time list adds) = Seeds time ∷ (map Seed list ++ map Add adds)
lines_of (EmitEvent time caller ticket verdict item) = Emit time caller ticket verdict item ∷ []
lines_of (FinishEvent time caller ticket item end adds) = Finish time caller ticket item end ∷ map Add adds
