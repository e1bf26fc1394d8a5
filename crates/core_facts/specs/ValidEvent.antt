-- Whether the journal spells an event out whole, computed.
--     is_uri text, is_address text      whether the text is an address, as far as reading and writing it again tells
--     is_item item, is_add item, is_end end      whether a line can name them
--     is_event e      whether the event is valid
use Rattle.std.specs.Prelude.{ℕ, pos, Bool, true, false, not, ◌&&◌, ◌||◌, ◌==◌, ◌^◌, nat_le, nat_lt, List, length, bytes_eq, Option, Some, None, is_some, is_none, Ok, Err, if◌then◌else◌}
use Rattle.std.specs.List.{list_all}
use Rattle.std.specs.Ordering.{int_eq}
use Rattle.url.specs.declared.slicing.Position.TheVariants.{BeforePath}
use Rattle.url.specs.Parts.{Parts, serialize, offset}
use Rattle.url.specs.Parser.{Parsed, parse_url}
use Rattle.uri_spec.specs.Surt.{class_text}
use Rattle.crawl_kinds.specs.Address.{most_uri, most_head, is_web}
use Rattle.crawl_kinds.specs.Text.{is_text, is_visible, is_hop}
use Rattle.crawl_kinds.specs.declared.event.TheConstants.{MAX_MS}
use Rattle.crawl_kinds.specs.declared.event.Body.{Body}
use Rattle.crawl_kinds.specs.declared.event.End.{End}
use Rattle.crawl_kinds.specs.declared.event.Fetch.{Fetch}
use Rattle.crawl_kinds.specs.declared.event.Notes.{Notes}
use Rattle.crawl_kinds.specs.declared.event.Outcome.{Outcome}
use Rattle.crawl_kinds.specs.declared.event.Outcome.TheVariants.{Success, Failure, Disregard, Retry}
use Rattle.crawl_kinds.specs.declared.event.Event.{Event}
use Rattle.crawl_kinds.specs.declared.event.Event.TheVariants.{Session, Seeds, Emit, Finish}
use Rattle.crawl_kinds.specs.declared.item.Item.{Item}
use Rattle.journal_valid.specs.Items.{key_of, rank_of, robots_redirects}
use Rattle.journal_valid.specs.Ends.{outcome_of, is_among, is_digest, is_fetched, is_last_failure, is_status, is_type, link_faults}

-- nothing, or something that passes
abbrev pub is_none_or : {X : Type 0} → (X → Bool) → Option X → Bool
is_none_or p None = true
is_none_or p (Some x) = p x

-- both hold, or neither
abbrev pub is_same : Bool → Bool → Bool
is_same a b = if a then b else not b

-- the URL is one of the web without fragment, is short enough before its path, and is written as this text
abbrev pub is_written : List ℕ → Parts → Bool
is_written text url =
    is_web url && is_none url.fragment && bytes_eq (serialize url) text && nat_le (offset url BeforePath) most_head

-- the parser gives a URL that passes
abbrev pub is_parsed : (Parts → Bool) → Parsed Parts → Bool
is_parsed p (Ok url) = p url
is_parsed p (Err fault) = false

-- the text is read as a URL that is written as this text
abbrev pub is_uri : List ℕ → Bool
is_uri text = nat_le (length text) most_uri && is_parsed (is_written text) (parse_url None text)

-- the same, of visible bytes
abbrev pub is_address : List ℕ → Bool
is_address text = is_uri text && is_text is_visible 2083 text

-- all fields follow from address, path and via
abbrev pub is_item : Item → Bool
is_item item =
    is_address item.uri && is_text is_hop 250 item.path && is_none_or is_address item.via
    && bytes_eq item.key (key_of item.uri item.path) && is_text is_visible 2200 item.key
    && bytes_eq item.class (class_text item.uri) && item.rank == rank_of item.key item.path

-- a robots file is redirected at most five times
abbrev pub is_add : Item → Bool
is_add item = is_item item && is_none_or (λ j. nat_le j 5) (robots_redirects item.path)

-- a start and a duration
abbrev pub is_fetch : Fetch → Bool
is_fetch fetch = nat_le fetch.start MAX_MS && nat_le fetch.duration MAX_MS

-- what a success recorded
abbrev pub is_body : Body → Bool
is_body body =
    nat_le body.size 8388608 && is_text is_visible 100 body.media && is_type body.media
    && is_text is_visible 37 body.digest && is_digest body.digest && nat_lt body.spot.file (2 ^ 32)
    && nat_le body.spot.at 4294967295 && nat_le body.spot.len 4294967295

-- a try number from 1, and a cause that is a fault of the link or none
abbrev pub is_noted : Notes → Bool
is_noted notes = nat_le 1 notes.tries && nat_lt notes.tries (2 ^ 32) && (int_eq notes.cause (pos 0) || is_among link_faults notes.cause)

-- the two outcomes are one
abbrev pub same_outcome : Outcome → Outcome → Bool
same_outcome Success Success = true
same_outcome Failure Failure = true
same_outcome Disregard Disregard = true
same_outcome Retry Retry = true
same_outcome one other = false

-- the code stands on the line of this outcome
abbrev pub is_outcome : Option Outcome → Outcome → Bool
is_outcome None outcome = false
is_outcome (Some other) outcome = same_outcome other outcome

-- an end that suits its code
abbrev pub is_end : End → Bool
is_end end =
    is_outcome (outcome_of end.code) end.outcome && is_same (is_some end.fetch) (is_fetched end.code)
    && is_none_or is_fetch end.fetch && is_same (is_some end.body) (is_status end.code)
    && is_none_or is_body end.body && is_noted end.notes
    && is_same (int_eq end.notes.cause (pos 0)) (not (is_last_failure end.code))

-- the name of a job, and the number of a format
abbrev pub is_opening : List ℕ → ℕ → Bool
is_opening job format = nat_le 1 (length job) && is_text is_visible 2200 job && nat_lt format (2 ^ 32)

-- a time, one of 32 callers, and a ticket
abbrev pub is_ticket : ℕ → ℕ → ℕ → Bool
is_ticket time caller ticket = nat_le time MAX_MS && nat_le caller 31 && nat_lt ticket (2 ^ 64)

-- a valid event
abbrev pub is_event : Event → Bool
is_event (Session time job format) = nat_le time MAX_MS && is_opening job format
is_event (Seeds time list adds) = nat_le time MAX_MS && list_all is_address list && list_all is_add adds
is_event (Emit time caller ticket verdict item) = is_ticket time caller ticket && is_item item
is_event (Finish time caller ticket item end adds) =
    is_ticket time caller ticket && is_item item && is_end end && list_all is_add adds
