-- How long the lines of valid events are.
use Rattle.std.proofs.Common.{ℕ, ◌*◌, ◌≤◌, List, [], ◌∷◌, ◌++◌, length, arith, length-append}
use Rattle.std.specs.Prelude.{codes}
use Rattle.std.specs.Fmt.{decimal}
use Rattle.std.specs.List.{AllByRecursion, flat_map}
use Rattle.crawl_kinds.specs.declared.event.TheConstants.{MAX_MS}
use Rattle.crawl_kinds.specs.declared.event.End.{End}
use Rattle.crawl_kinds.specs.declared.event.Event.TheVariants.{Session, Seeds, Emit, Finish}
use Rattle.crawl_kinds.specs.declared.event.Verdict.{Verdict}
use Rattle.crawl_kinds.specs.declared.item.Item.{Item}
use Rattle.crawl_kinds.specs.Text.{is_visible}
use Rattle.journal_spec.specs.Fields.{end_fields, item_fields, outcome_tag, ticket_fields, verdict_field}
use Rattle.journal_spec.specs.Journal.{add_line, emit_line, finish_line, seed_line, seeds_line, session_line}
use Rattle.journal_valid.specs.Ends.{IsEnd}
use Rattle.journal_valid.specs.Items.{IsAddress, IsAdd, IsItem}
use Rattle.journal_valid.specs.Valid.{IsSession, IsTicket}
use Rattle.journal_sizes.specs.Sizes.{ValidIsShort}
use Rattle.journal_sizes.proofs.Rooms.{length-line, room-append}
use Rattle.journal_sizes.proofs.Texts.{address_short, number_short, text_short}
use Rattle.journal_sizes.proofs.Fields.{end_short, item_short, tag_short, ticket_short, verdict_short}

session_short : (time : ℕ) (job : List ℕ) (format : ℕ) → time ≤ MAX_MS → IsSession job format → length (session_line time job format) ≤ 10000
session_short time job format le is =
    omega (
      arith,
      number_short time (omega arith),
      text_short is_visible 2200 job is.visible,
      number_short format (omega (arith, is.numbered)),
      length-line (codes "S+") (decimal time ∷ job ∷ decimal format ∷ []),
    )

times_short : (time : ℕ) → time ≤ MAX_MS → length (seeds_line time) ≤ 10000
times_short time le = omega (arith, number_short time (omega arith), length-line (codes "S*") (decimal time ∷ []))

emit_short : (time caller ticket : ℕ) (verdict : Verdict) (item : Item) → IsTicket time caller ticket → IsItem item → length (emit_line time caller ticket verdict item) ≤ 10000
emit_short time caller ticket verdict item one two =
    omega (
      arith,
      ticket_short time caller ticket one,
      item_short item two,
      verdict_short verdict,
      length-line (codes "Fe") (item_fields item ++ ticket_fields time caller ticket ++ verdict_field verdict ∷ []),
      room-append (item_fields item ++ ticket_fields time caller ticket) (verdict_field verdict ∷ []),
      room-append (item_fields item) (ticket_fields time caller ticket),
    )

finish_short : (time caller ticket : ℕ) (item : Item) (end : End) → IsTicket time caller ticket → IsItem item → IsEnd end → length (finish_line time caller ticket item end) ≤ 10000
finish_short time caller ticket item end one two three =
    omega (
      arith,
      ticket_short time caller ticket one,
      item_short item two,
      end_short end three,
      tag_short end.outcome,
      length-line (outcome_tag end.outcome) (item_fields item ++ ticket_fields time caller ticket ++ end_fields end),
      room-append (item_fields item ++ ticket_fields time caller ticket) (end_fields end),
      room-append (item_fields item) (ticket_fields time caller ticket),
    )

-- ---- lists of lines

seed_short : (uri : List ℕ) → IsAddress uri → length (seed_line uri) ≤ 5000
seed_short uri is = omega (arith, length-line (codes "Sd") (uri ∷ []), address_short uri is)

add_short : (item : Item) → IsAdd item → length (add_line item) ≤ 5000
add_short item is = omega (arith, length-line (codes "F+") (item_fields item), item_short item is.named)

lines_short : {X : Type 0} (f : X → List ℕ) (P : X → Type 0) → ((x : X) → P x → length (f x) ≤ 5000) → (xs : List X) → AllByRecursion P xs
    → length (flat_map f xs) ≤ 5000 * length xs
lines_short f P each [] all = omega arith
lines_short f P each (x ∷ xs) all =
    let here : length (f x) ≤ 5000 = each x all.0 in
    let rest : length (flat_map f xs) ≤ 5000 * length xs = lines_short f P each xs all.1 in
    omega (arith, length-append (f x) (flat_map f xs))

-- ---- events

pub valid_short : ValidIsShort
valid_short (Session time job format) is = omega (arith, session_short time job format is.0 is.1)
valid_short (Seeds time list adds) is =
    omega (
      arith,
      times_short time is.0,
      lines_short seed_line IsAddress seed_short list is.1,
      lines_short add_line IsAdd add_short adds is.2,
      length-append (seeds_line time) (flat_map seed_line list),
      length-append (seeds_line time ++ flat_map seed_line list) (flat_map add_line adds),
    )
valid_short (Emit time caller ticket verdict item) is = omega (arith, emit_short time caller ticket verdict item is.0 is.1)
valid_short (Finish time caller ticket item end adds) is =
    omega (
      arith,
      finish_short time caller ticket item end is.0 is.1 is.2,
      lines_short add_line IsAdd add_short adds is.3,
      length-append (finish_line time caller ticket item end) (flat_map add_line adds),
    )
