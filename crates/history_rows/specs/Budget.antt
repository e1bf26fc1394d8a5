-- A budget of three, and five seeds of one host: two keep waiting, and the crawl is over.
use Rattle.std.specs.Prelude.{◌≡◌, ℕ, ◌+◌, ◌*◌, true, false, List, [], ◌∷◌, ◌++◌, map, Some, codes}
use Rattle.crawl_kinds.specs.declared.event.Event.{Event}
use Rattle.crawl_kinds.specs.declared.event.Event.TheVariants.{Seeds, Emit, Finish}
use Rattle.crawl_kinds.specs.declared.event.Verdict.TheVariants.{Allowed, Needed}
use Rattle.crawl_kinds.specs.declared.event.Outcome.TheVariants.{Retry}
use Rattle.crawl_kinds.specs.declared.item.Item.{Item}
use Rattle.crawl_kinds.specs.declared.settings.Settings.{Settings}
use Rattle.crawl_history.specs.Codes.{robots_needed}
use Rattle.crawl_history.specs.Facts.{Facts, Archive}
use Rattle.crawl_history.specs.History.{history_of}
use Rattle.crawl_history.specs.Queues.{queue}
use Rattle.crawl_history.specs.Counts.{budget_spent, is_retired}
use Rattle.crawl_history.specs.Emission.{answer, Gives, Over}
use Rattle.crawl_history.specs.Adds.{item_of}
use Rattle.crawl_history.specs.Ends.{end_without_fetch}
use Rattle.crawl_history.specs.Steps.{Legal}
use Rattle.history_promises.specs.Complete.{is_complete}
use Rattle.history_promises.specs.Polite.{all_timely}
use Rattle.history_rows.specs.Fetches.{success}
use Rattle.history_rows.specs.Names.{class_a, digit}
use Rattle.history_rows.specs.Pages.{archive, bare_page, count_up}
use Rattle.history_rows.specs.Toy.{sample, toy, opened, seed, moment}

-- the settings: a budget of three
abbrev pub three_pages : Settings
three_pages = record sample { host_budget = 3 }

-- the small world under them
abbrev pub facts : Facts
facts = toy three_pages

-- a robots file and three pages
abbrev pub files : Archive
files = archive (bare_page ∷ bare_page ∷ bare_page ∷ bare_page ∷ [])

-- the address of page n
abbrev pub page_uri : ℕ → List ℕ
page_uri n = codes "http://a.test/" ++ digit n ∷ []

-- page n
abbrev pub page : ℕ → Item
page n = seed (page_uri n)

-- the robots file
abbrev pub robots : Item
robots = item_of facts (codes "http://a.test/robots.txt") (codes "P") (Some (page_uri 1))

-- page n goes out three seconds after the page before it, and is a success
abbrev pub visit : ℕ → List Event
visit n =
    let time = moment + 3000 * n in
    Emit time 0 (n + 2) Allowed (page n) ∷ Finish time 0 (n + 2) (page n) (success 200 time 0 38 n) [] ∷ []

-- five seeds, and there is no robots file
abbrev pub begun : List Event
begun =
    opened ∷ Seeds moment (map page_uri (count_up 5 1)) (map page (count_up 5 1))
    ∷ Emit moment 0 1 Needed (page 1) ∷ Finish moment 0 1 (page 1) (end_without_fetch Retry robots_needed 1) (robots ∷ [])
    ∷ Emit moment 0 2 Allowed robots ∷ Finish moment 0 2 robots (success 404 moment 0 45 0) [] ∷ []

-- two pages came
abbrev pub two : List Event
two = begun ++ visit 1 ++ visit 2

-- and the third
abbrev pub three : List Event
three = two ++ visit 3

pub record BudgetRetires : Type 0 where
  -- a page that is tried again keeps its turn
  pub keeps_turn : queue (history_of begun) class_a ≡ map page (count_up 5 1)
  -- a robots file costs nothing: after it and two pages the third page goes
  pub spends : budget_spent (history_of two) class_a ≡ 2
  pub active : is_retired three_pages (history_of two) class_a ≡ false
  pub third : answer facts files (history_of two) (moment + 9000) ≡ Gives (page 3)
  -- then the class is retired, its items wait, and the crawl is over
  pub spent : budget_spent (history_of three) class_a ≡ 3
  pub retired : is_retired three_pages (history_of three) class_a ≡ true
  pub waiting : queue (history_of three) class_a ≡ page 4 ∷ page 5 ∷ []
  pub over : answer facts files (history_of three) (moment + 12000) ≡ Over
  -- without a budget the next page goes
  pub without : answer (toy sample) files (history_of three) (moment + 12000) ≡ Gives (page 4)
  -- these events are a legal history, complete and polite
  pub legal : Legal facts files three
  pub complete : is_complete facts files three ≡ true
  pub polite : all_timely facts files (history_of []) three ≡ true
