-- Events, and their lines as written by hand.
--     opening, opening_lines      a session and two seeds
--     handed_out, handed_out_lines      an item that is emitted
use Rattle.std.specs.Prelude.{ℕ, List, [], ◌∷◌, ◌++◌, codes, flat_map, Option, Some, None}
use Rattle.crawl_kinds.specs.declared.event.Verdict.TheVariants.{Needed}
use Rattle.crawl_kinds.specs.declared.event.Event.{Event}
use Rattle.crawl_kinds.specs.declared.event.Event.TheVariants.{Session, Seeds, Emit}
use Rattle.crawl_kinds.specs.declared.item.Item.{Item}
use Rattle.journal_spec.specs.Journal.{line_feed}

-- lines, each with its line feed
abbrev pub lines : List (List ℕ) → List ℕ
lines texts = flat_map (λ text. text ++ line_feed ∷ []) texts

-- a seed
abbrev pub uri_a : List ℕ
uri_a = codes "http://a.test/"

-- another seed, on another host
abbrev pub uri_b : List ℕ
uri_b = codes "http://b.test/x"

-- the robots file of the first seed's host
abbrev pub uri_robots : List ℕ
uri_robots = codes "http://a.test/robots.txt"

-- an item whose key, class and rank no line names
abbrev pub found : List ℕ → List ℕ → Option (List ℕ) → Item
found uri path via = record { key = uri; uri = uri; class = uri; path = path; via = via; rank = 3 }

-- a session and two seeds
abbrev pub opening : List Event
opening =
    Session 1700000000000 (codes "none") 1
    ∷ Seeds 1700000000000 (uri_a ∷ uri_b ∷ []) (found uri_a [] None ∷ found uri_b [] None ∷ [])
    ∷ []

-- the six lines of the opening
abbrev pub opening_lines : List ℕ
opening_lines =
    lines
    (codes "S+ 1700000000000 none 1"
    ∷ codes "S* 1700000000000"
    ∷ codes "Sd http://a.test/"
    ∷ codes "Sd http://b.test/x"
    ∷ codes "F+ http://a.test/ - -"
    ∷ codes "F+ http://b.test/x - -"
    ∷ [])

-- an item that needs its robots file
abbrev pub handed_out : Event
handed_out = Emit 1700000000000 31 1 Needed (found uri_b (codes "LE") (Some uri_a))

-- its line
abbrev pub handed_out_lines : List ℕ
handed_out_lines = lines (codes "Fe http://b.test/x LE http://a.test/ 1700000000000 31 1 N" ∷ [])
