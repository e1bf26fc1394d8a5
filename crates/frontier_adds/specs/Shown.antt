-- What is handed in with the end of an item, against its pages and its history.
--     KeepsPlaces h places      what is kept of keys is what the history says
--     ShowsLinks f a c links      the links are those of the response that the finish cites
use Rattle.std.specs.Prelude.{◌≡◌, ℕ, true, false, List, map}
use Rattle.std.specs.BTreeMap.{BTreeMap}
use Rattle.crawl_kinds.specs.declared.event.Outcome.TheVariants.{Success}
use Rattle.crawl_kinds.specs.Event.{Finishing}
use Rattle.crawl_history.specs.Facts.{Facts, Archive}
use Rattle.crawl_history.specs.History.{History}
use Rattle.crawl_history.specs.Outcomes.{is_prerequisite}
use Rattle.crawl_history.specs.Places.{place_of}
use Rattle.crawl_history.specs.Robots.{page_links, redirect_of, status_class}
use Rattle.extract_spec.specs.declared.found.Found.{Found}
use Rattle.frontier_memo.specs.declared.known.Known.{Known}
use Rattle.frontier_adds.specs.Candidates.{found_redirect, kept_place, link_of}

-- what is kept of each key is where the history has it
abbrev pub KeepsPlaces : History → BTreeMap (List ℕ) Known → Type 0
KeepsPlaces h places = (key : List ℕ) → kept_place places key ≡ place_of h key

-- the links are those of the page that came; of a robots file that came with a redirect they lead where it does
pub record ShowsLinks (f : Facts) (a : Archive) (c : Finishing) (links : List Found) : Type 0 where
  pub page : c.end.outcome ≡ Success → is_prerequisite c.item ≡ false → map link_of links ≡ page_links f a c
  pub robots : c.end.outcome ≡ Success → is_prerequisite c.item ≡ true → status_class c ≡ 3 → found_redirect c.item links ≡ redirect_of f a c
