-- The lines of the journal, format 1: each event has one spelling.
--     line fields      a line of these fields
--     spelling event      the lines of an event
use Rattle.std.specs.Prelude.{ℕ, List, [], ◌∷◌, ◌++◌, codes, flat_map}
use Rattle.std.specs.Fmt.{decimal}
use Rattle.std.specs.List.{join_with_byte}
use Rattle.crawl_kinds.specs.declared.event.Verdict.{Verdict}
use Rattle.crawl_kinds.specs.declared.event.End.{End}
use Rattle.crawl_kinds.specs.declared.event.Event.{Event}
use Rattle.crawl_kinds.specs.declared.event.Event.TheVariants.{Session, Seeds, Emit, Finish}
use Rattle.crawl_kinds.specs.declared.item.Item.{Item}
use Rattle.journal_spec.specs.Fields.{item_fields, ticket_fields, verdict_field, outcome_tag, end_fields}

-- what stands between fields
abbrev pub space : ℕ
space = 32

-- what ends a line
abbrev pub line_feed : ℕ
line_feed = 10

-- the fields, one space apart, and a line feed
abbrev pub line : List (List ℕ) → List ℕ
line fields = join_with_byte space fields ++ line_feed ∷ []

-- S+ TIME JOB FORMAT
abbrev pub session_line : ℕ → List ℕ → ℕ → List ℕ
session_line time job format = line (codes "S+" ∷ decimal time ∷ job ∷ decimal format ∷ [])

-- S* TIME
abbrev pub seeds_line : ℕ → List ℕ
seeds_line time = line (codes "S*" ∷ decimal time ∷ [])

-- Sd URI
abbrev pub seed_line : List ℕ → List ℕ
seed_line uri = line (codes "Sd" ∷ uri ∷ [])

-- F+ URI PATH VIA
abbrev pub add_line : Item → List ℕ
add_line item = line (codes "F+" ∷ item_fields item)

-- Fe URI PATH VIA TIME CALLER TICKET VERDICT
abbrev pub emit_line : ℕ → ℕ → ℕ → Verdict → Item → List ℕ
emit_line time caller ticket verdict item =
    line (codes "Fe" ∷ (item_fields item ++ ticket_fields time caller ticket ++ verdict_field verdict ∷ []))

-- Fs, Ff, Fd or Fr, and URI PATH VIA TIME CALLER TICKET CODE START+DURATION SIZE TYPE DIGEST FILE:AT:LEN NOTES
abbrev pub finish_line : ℕ → ℕ → ℕ → Item → End → List ℕ
finish_line time caller ticket item end =
    line (outcome_tag end.outcome ∷ (item_fields item ++ ticket_fields time caller ticket ++ end_fields end))

-- the lines of an event
abbrev pub spelling : Event → List ℕ
spelling (Session time job format) = session_line time job format
spelling (Seeds time list adds) = seeds_line time ++ flat_map seed_line list ++ flat_map add_line adds
spelling (Emit time caller ticket verdict item) = emit_line time caller ticket verdict item
spelling (Finish time caller ticket item end adds) = finish_line time caller ticket item end ++ flat_map add_line adds
