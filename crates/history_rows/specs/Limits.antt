-- The limits of a job, after a robots file and two pages of one host.
use Rattle.std.specs.Prelude.{◌≡◌, ◌+◌, List, [], ◌∷◌, ◌++◌, None}
use Rattle.crawl_kinds.specs.declared.event.Event.{Event}
use Rattle.crawl_kinds.specs.declared.event.Event.TheVariants.{Emit}
use Rattle.crawl_kinds.specs.declared.event.Verdict.TheVariants.{Allowed}
use Rattle.crawl_kinds.specs.declared.settings.Settings.{Settings}
use Rattle.crawl_history.specs.History.{history_of}
use Rattle.crawl_history.specs.Counts.{pages, bytes_in}
use Rattle.crawl_history.specs.Emission.{Answer, answer, Gives, NotYet, Over}
use Rattle.history_rows.specs.Toy.{sample, toy, moment}
use Rattle.history_rows.specs.Budget as budget

-- the answer when the third page may go
abbrev pub answer_under : Settings → Answer
answer_under settings = answer (toy settings) budget.files (history_of budget.two) (moment + 9000)

-- the third page is out
abbrev pub third_out : List Event
third_out = budget.two ++ Emit (moment + 9000) 0 5 Allowed (budget.page 3) ∷ []

pub record LimitsStop : Type 0 where
  -- a robots file is no page, but its bytes count
  pub two_pages : pages (history_of budget.two) ≡ 2
  pub all_bytes : bytes_in (history_of budget.two) ≡ 121
  -- at its limit the crawl is over, below it goes on
  pub pages_met : answer_under (record sample { max_pages = 2 }) ≡ Over
  pub pages_left : answer_under (record sample { max_pages = 3 }) ≡ Gives (budget.page 3)
  pub bytes_met : answer_under (record sample { max_bytes = 121 }) ≡ Over
  pub bytes_left : answer_under (record sample { max_bytes = 122 }) ≡ Gives (budget.page 3)
  pub seconds_met : answer_under (record sample { max_seconds = 9 }) ≡ Over
  pub seconds_left : answer_under (record sample { max_seconds = 10 }) ≡ Gives (budget.page 3)
  -- nothing is over while a page is out
  pub out : answer (toy (record sample { max_pages = 2 })) budget.files (history_of third_out) (moment + 9000) ≡ NotYet None
