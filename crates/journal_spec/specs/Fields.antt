-- The fields of journal lines: texts without a space. Numbers are decimal, without leading zeros.
--     item_fields, ticket_fields, end_fields      of an item, of its ticket, of its end
--     verdict_field, outcome_tag      the letter of a verdict, the tag of an outcome
use Rattle.std.specs.Prelude.{ℕ, ℤ, pos, nat_lt, if◌then◌else◌, List, [], ◌∷◌, ◌++◌, codes, Option, Some, None, unwrap_or}
use Rattle.std.specs.Fmt.{decimal, signed_decimal}
use Rattle.std.specs.List.{join_with_byte}
use Rattle.std.specs.Ordering.{int_eq}
use Rattle.crawl_kinds.specs.declared.event.Verdict.{Verdict}
use Rattle.crawl_kinds.specs.declared.event.Verdict.TheVariants.{Allowed, Precluded, Needed, Unsupported, Unreachable}
use Rattle.crawl_kinds.specs.declared.event.Outcome.{Outcome}
use Rattle.crawl_kinds.specs.declared.event.Outcome.TheVariants.{Success, Failure, Disregard, Retry}
use Rattle.crawl_kinds.specs.declared.event.Cut.{Cut}
use Rattle.crawl_kinds.specs.declared.event.Cut.TheVariants.{Length, Disconnect}
use Rattle.crawl_kinds.specs.declared.event.Fetch.{Fetch}
use Rattle.crawl_kinds.specs.declared.event.Spot.{Spot}
use Rattle.crawl_kinds.specs.declared.event.Body.{Body}
use Rattle.crawl_kinds.specs.declared.event.Notes.{Notes}
use Rattle.crawl_kinds.specs.declared.event.End.{End}
use Rattle.crawl_kinds.specs.declared.item.Item.{Item}

-- what stands for an absent field
abbrev pub absent : List ℕ
absent = codes "-"

-- what stands between the parts of a place
abbrev pub colon : ℕ
colon = 58

-- what stands between notes
abbrev pub comma : ℕ
comma = 44

-- PATH, where the empty path is absent
abbrev pub path_field : List ℕ → List ℕ
path_field [] = absent
path_field (letter ∷ letters) = letter ∷ letters

-- URI PATH VIA
abbrev pub item_fields : Item → List (List ℕ)
item_fields item = item.uri ∷ path_field item.path ∷ unwrap_or item.via absent ∷ []

-- TIME CALLER TICKET
abbrev pub ticket_fields : ℕ → ℕ → ℕ → List (List ℕ)
ticket_fields time caller ticket = decimal time ∷ decimal caller ∷ decimal ticket ∷ []

-- VERDICT, a letter
abbrev pub verdict_field : Verdict → List ℕ
verdict_field Allowed = codes "A"
verdict_field Precluded = codes "P"
verdict_field Needed = codes "N"
verdict_field Unsupported = codes "U"
verdict_field Unreachable = codes "X"

-- the tag of a line that ends an item
abbrev pub outcome_tag : Outcome → List ℕ
outcome_tag Success = codes "Fs"
outcome_tag Failure = codes "Ff"
outcome_tag Disregard = codes "Fd"
outcome_tag Retry = codes "Fr"

-- START+DURATION
abbrev pub fetch_field : Option Fetch → List ℕ
fetch_field None = absent
fetch_field (Some fetch) = decimal fetch.start ++ codes "+" ++ decimal fetch.duration

-- FILE:AT:LEN
abbrev pub spot_field : Spot → List ℕ
spot_field spot = join_with_byte colon (decimal spot.file ∷ decimal spot.at ∷ decimal spot.len ∷ [])

-- SIZE TYPE DIGEST FILE:AT:LEN
abbrev pub body_fields : Option Body → List (List ℕ)
body_fields None = absent ∷ absent ∷ absent ∷ absent ∷ []
body_fields (Some body) = decimal body.size ∷ body.media ∷ body.digest ∷ spot_field body.spot ∷ []

-- why a response was cut
abbrev pub cut_notes : Option Cut → List (List ℕ)
cut_notes None = []
cut_notes (Some Length) = codes "trunc:length" ∷ []
cut_notes (Some Disconnect) = codes "trunc:disconnect" ∷ []

-- the try number, from the second try on
abbrev pub tries_notes : ℕ → List (List ℕ)
tries_notes tries = if nat_lt tries 2 then [] else (codes "tries:" ++ decimal tries) ∷ []

-- the code of the cause, where there is one
abbrev pub cause_notes : ℤ → List (List ℕ)
cause_notes cause = if int_eq cause (pos 0) then [] else (codes "cause:" ++ signed_decimal cause) ∷ []

-- the notes joined by commas, or `-` where there is none
abbrev pub joined_notes : List (List ℕ) → List ℕ
joined_notes [] = absent
joined_notes (note ∷ notes) = join_with_byte comma (note ∷ notes)

-- NOTES
abbrev pub notes_field : Notes → List ℕ
notes_field notes = joined_notes (cut_notes notes.cut ++ tries_notes notes.tries ++ cause_notes notes.cause)

-- CODE START+DURATION SIZE TYPE DIGEST FILE:AT:LEN NOTES
abbrev pub end_fields : End → List (List ℕ)
end_fields end = signed_decimal end.code ∷ fetch_field end.fetch ∷ (body_fields end.body ++ notes_field end.notes ∷ [])
