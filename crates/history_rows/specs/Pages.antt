-- Pages of the small world: each is a block of one byte, and all stand in one file, one behind the other.
--     archive blocks      the file that holds these blocks
--     links uri block      the links of a page
use Rattle.std.specs.Prelude.{ℕ, zero, suc, ◌+◌, ◌/◌, ◌%◌, nat_lt, List, [], ◌∷◌, ◌++◌, map, Option, Some, None, codes, bytes_eq, slice_index, length, if◌then◌else◌}
use Rattle.crawl_kinds.specs.declared.event.Spot.{Spot}
use Rattle.crawl_kinds.specs.declared.snapshot.Edge.{Edge}
use Rattle.crawl_history.specs.Codes.{redirect_letter}
use Rattle.crawl_history.specs.Facts.{Archive, Link}
use Rattle.history_rows.specs.Names.{digit}

-- L: a link
abbrev pub link_letter : ℕ
link_letter = 76

-- a page without links
abbrev pub bare_page : ℕ
bare_page = 0

-- a page of three links
abbrev pub three_links : ℕ
three_links = 3

-- a page of forty links
abbrev pub forty_links : ℕ
forty_links = 40

-- a redirect to `/r` of the first host
abbrev pub redirect : ℕ
redirect = 82

-- a redirect to the other host
abbrev pub redirect_away : ℕ
redirect_away = 83

-- a robots file that forbids all and asks for a delay of 7 seconds
abbrev pub forbids : ℕ
forbids = 70

-- link n of a page: `/p00`, `/p01` and so on
abbrev pub link : ℕ → Link
link n = record { letter = link_letter; uri = codes "http://a.test/p" ++ digit (n / 10) ∷ digit (n % 10) ∷ [] }

-- n numbers, from this one on
abbrev pub count_up : ℕ → ℕ → List ℕ
count_up zero from = []
count_up (suc n) from = from ∷ count_up n (from + 1)

-- the links of a page with this block
abbrev pub links : List ℕ → List ℕ → List Link
links uri block =
    if bytes_eq block (redirect ∷ [])
    then record { letter = redirect_letter; uri = codes "http://a.test/r" } ∷ []
    else if bytes_eq block (redirect_away ∷ [])
    then record { letter = redirect_letter; uri = codes "http://b.test/r" } ∷ []
    else if bytes_eq block (forty_links ∷ [])
    then map link (count_up 40 0)
    else if bytes_eq block (three_links ∷ [])
    then map link (count_up 3 0)
    else []

-- the place behind the last cited block
abbrev pub place_behind : Option Edge → ℕ
place_behind None = 0
place_behind (Some edge) = edge.end

-- the place of one block
abbrev pub spot : ℕ → Spot
spot n = record { file = 0; at = n; len = 1 }

-- the block at a place; none past the last one
abbrev pub archive : List ℕ → Archive
archive blocks spot = if nat_lt spot.at (length blocks) then slice_index blocks spot.at ∷ [] else []
