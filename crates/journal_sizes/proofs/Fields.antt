-- How long the fields of a valid line are.
use Rattle.std.proofs.Common.{ℕ, pos, ◌+◌, ◌≤◌, Bool, true, false, if◌then◌else◌, nat_lt, List, [], ◌∷◌, ◌++◌, length, Option, Some, None, arith, length-append}
use Rattle.std.specs.Prelude.{codes, IfSome}
use Rattle.std.specs.Fmt.{decimal, signed_decimal}
use Rattle.std.specs.Ordering.{int_eq}
use Rattle.crawl_kinds.specs.declared.event.Body.{Body}
use Rattle.crawl_kinds.specs.declared.event.Cut.{Cut}
use Rattle.crawl_kinds.specs.declared.event.Cut.TheVariants.{Length, Disconnect}
use Rattle.crawl_kinds.specs.declared.event.End.{End}
use Rattle.crawl_kinds.specs.declared.event.Fetch.{Fetch}
use Rattle.crawl_kinds.specs.declared.event.Notes.{Notes}
use Rattle.crawl_kinds.specs.declared.event.Outcome.{Outcome}
use Rattle.crawl_kinds.specs.declared.event.Outcome.TheVariants.{Success, Failure, Disregard, Retry}
use Rattle.crawl_kinds.specs.declared.event.Spot.{Spot}
use Rattle.crawl_kinds.specs.declared.event.Verdict.{Verdict}
use Rattle.crawl_kinds.specs.declared.event.Verdict.TheVariants.{Allowed, Precluded, Needed, Unsupported, Unreachable}
use Rattle.crawl_kinds.specs.declared.item.Item.{Item}
use Rattle.crawl_kinds.specs.Text.{is_visible}
use Rattle.journal_spec.specs.Fields.{body_fields, cause_notes, colon, comma, cut_notes, end_fields, fetch_field, item_fields, joined_notes, notes_field, outcome_tag, spot_field, ticket_fields, tries_notes, verdict_field}
use Rattle.journal_valid.specs.Ends.{IsBody, IsEnd, IsFetch, IsNotes}
use Rattle.journal_valid.specs.Items.{IsItem}
use Rattle.journal_valid.specs.Valid.{IsTicket}
use Rattle.journal_sizes.proofs.Rooms.{length-joined, room, room-append}
use Rattle.journal_sizes.proofs.Texts.{address_short, cause_short, code_short, number_short, path_short, text_short, via_short}

pub verdict_short : (verdict : Verdict) → length (verdict_field verdict) ≤ 1
verdict_short Allowed = omega arith
verdict_short Precluded = omega arith
verdict_short Needed = omega arith
verdict_short Unsupported = omega arith
verdict_short Unreachable = omega arith

pub tag_short : (outcome : Outcome) → length (outcome_tag outcome) ≤ 2
tag_short Success = omega arith
tag_short Failure = omega arith
tag_short Disregard = omega arith
tag_short Retry = omega arith

-- address, path and via
pub item_short : (item : Item) → IsItem item → room (item_fields item) ≤ 4419
item_short item is = omega (arith, address_short item.uri is.uri, path_short item.path is.path, via_short item.via is.via)

-- time, caller and ticket
pub ticket_short : (time caller ticket : ℕ) → IsTicket time caller ticket → room (ticket_fields time caller ticket) ≤ 63
ticket_short time caller ticket is =
    omega (arith, number_short time (omega (arith, is.in_time)), number_short caller (omega (arith, is.among_callers)), number_short ticket is.in_range)

-- ---- the end of an item

fetch_short : (fetch : Option Fetch) → IfSome fetch IsFetch → length (fetch_field fetch) ≤ 41
fetch_short None is = omega arith
fetch_short (Some fetch) is =
    omega (
      arith,
      number_short fetch.start (omega (arith, is.start)),
      number_short fetch.duration (omega (arith, is.duration)),
      length-append (decimal fetch.start ++ codes "+") (decimal fetch.duration),
      length-append (decimal fetch.start) (codes "+"),
    )

spot_short : (spot : Spot) → length (decimal spot.file) ≤ 20 → length (decimal spot.at) ≤ 20 → length (decimal spot.len) ≤ 20 → length (spot_field spot) ≤ 62
spot_short spot file at len = omega (arith, file, at, len, length-joined colon (decimal spot.file) (decimal spot.at ∷ decimal spot.len ∷ []))

body_short : (body : Option Body) → IfSome body IsBody → room (body_fields body) ≤ 223
body_short None is = omega arith
body_short (Some body) is =
    omega (
      arith,
      number_short body.size (omega (arith, is.size)),
      text_short is_visible 100 body.media is.media,
      text_short is_visible 37 body.digest is.digest,
      spot_short body.spot (number_short body.spot.file (omega (arith, is.file))) (number_short body.spot.at (omega (arith, is.at)))
          (number_short body.spot.len (omega (arith, is.len))),
    )

cut_short : (cut : Option Cut) → room (cut_notes cut) ≤ 20
cut_short None = omega arith
cut_short (Some Length) = omega arith
cut_short (Some Disconnect) = omega arith

-- a note that may be left out
choice_short : (left_out : Bool) (note : List ℕ) → room (if left_out then [] else note ∷ []) ≤ length note + 1
choice_short true note = omega arith
choice_short false note = omega arith

joined_short : (notes : List (List ℕ)) → length (joined_notes notes) ≤ room notes + 1
joined_short [] = omega arith
joined_short (note ∷ notes) = omega (arith, length-joined comma note notes)

notes_short : (notes : Notes) → IsNotes notes → length (notes_field notes) ≤ 100
notes_short notes is =
    let tries : length (decimal notes.tries) ≤ 20 = number_short notes.tries (omega (arith, is.tries)) in
    let cause : length (signed_decimal notes.cause) ≤ 20 = cause_short notes.cause is.cause in
    let second : room (tries_notes notes.tries) ≤ 27 = omega (arith, choice_short (nat_lt notes.tries 2) (codes "tries:" ++ decimal notes.tries)) in
    let third : room (cause_notes notes.cause) ≤ 27 =
    omega (arith, choice_short (int_eq notes.cause (pos 0)) (codes "cause:" ++ signed_decimal notes.cause)) in
    omega (
      arith,
      second,
      third,
      cut_short notes.cut,
      room-append (cut_notes notes.cut ++ tries_notes notes.tries) (cause_notes notes.cause),
      room-append (cut_notes notes.cut) (tries_notes notes.tries),
      joined_short (cut_notes notes.cut ++ tries_notes notes.tries ++ cause_notes notes.cause),
    )

-- code, fetch, body and notes
pub end_short : (end : End) → IsEnd end → room (end_fields end) ≤ 500
end_short end is =
    omega (
      arith,
      code_short end.code end.outcome is.outcome,
      fetch_short end.fetch is.fetch,
      body_short end.body is.body,
      notes_short end.notes is.notes,
      room-append (body_fields end.body) (notes_field end.notes ∷ []),
    )
