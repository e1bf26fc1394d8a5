-- Two hosts of which nothing is known, all at one moment: they take turns, and so do their robots files.
use Rattle.std.specs.Prelude.{◌≡◌, List, [], ◌∷◌, ◌++◌, Some, codes}
use Rattle.crawl_kinds.specs.declared.event.Event.{Event}
use Rattle.crawl_kinds.specs.declared.event.Event.TheVariants.{Seeds, Emit, Finish}
use Rattle.crawl_kinds.specs.declared.event.Verdict.TheVariants.{Allowed, Needed}
use Rattle.crawl_kinds.specs.declared.event.Outcome.TheVariants.{Retry}
use Rattle.crawl_kinds.specs.declared.item.Item.{Item}
use Rattle.crawl_history.specs.Codes.{robots_needed}
use Rattle.crawl_history.specs.Facts.{Facts, Archive}
use Rattle.crawl_history.specs.History.{history_of}
use Rattle.crawl_history.specs.Verdicts.{verdict}
use Rattle.crawl_history.specs.Waits.{wake}
use Rattle.crawl_history.specs.Emission.{answer, Gives}
use Rattle.crawl_history.specs.Adds.{item_of}
use Rattle.crawl_history.specs.Ends.{end_without_fetch}
use Rattle.crawl_history.specs.Steps.{Legal}
use Rattle.history_rows.specs.Fetches.{success}
use Rattle.history_rows.specs.Names.{class_a, class_b}
use Rattle.history_rows.specs.Pages.{archive, bare_page}
use Rattle.history_rows.specs.Toy.{sample, toy, opened, seed, moment}

-- the small world
abbrev pub facts : Facts
facts = toy sample

-- two robots files
abbrev pub files : Archive
files = archive (bare_page ∷ bare_page ∷ [])

-- a page of the first host
abbrev pub page_a : Item
page_a = seed (codes "http://a.test/")

-- a page of the second
abbrev pub page_b : Item
page_b = seed (codes "http://b.test/x")

-- the robots file of the first
abbrev pub robots_a : Item
robots_a = item_of facts (codes "http://a.test/robots.txt") (codes "P") (Some (codes "http://a.test/"))

-- the robots file of the second
abbrev pub robots_b : Item
robots_b = item_of facts (codes "http://b.test/robots.txt") (codes "P") (Some (codes "http://b.test/x"))

-- both pages are seeds
abbrev pub begun : List Event
begun = opened ∷ Seeds moment (codes "http://a.test/" ∷ codes "http://b.test/x" ∷ []) (page_a ∷ page_b ∷ []) ∷ []

-- both are seeds, in the other order
abbrev pub begun_with_b : List Event
begun_with_b = opened ∷ Seeds moment (codes "http://b.test/x" ∷ codes "http://a.test/" ∷ []) (page_b ∷ page_a ∷ []) ∷ []

-- the first needs its robots file
abbrev pub one : List Event
one = begun ++ Emit moment 0 1 Needed page_a ∷ Finish moment 0 1 page_a (end_without_fetch Retry robots_needed 1) (robots_a ∷ []) ∷ []

-- and the second
abbrev pub both : List Event
both = one ++ Emit moment 0 2 Needed page_b ∷ Finish moment 0 2 page_b (end_without_fetch Retry robots_needed 1) (robots_b ∷ []) ∷ []

-- the robots file of the first host is out
abbrev pub asked_a : List Event
asked_a = both ++ Emit moment 0 3 Allowed robots_a ∷ []

-- and came
abbrev pub known_a : List Event
known_a = asked_a ++ Finish moment 0 3 robots_a (success 404 moment 0 45 0) [] ∷ []

pub record HostsTakeTurns : Type 0 where
  -- both wakes are 0: the text of the class decides
  pub first : answer facts files (history_of begun) moment ≡ Gives page_a
  pub also_first : answer facts files (history_of begun_with_b) moment ≡ Gives page_a
  -- its wake is now the moment, that of the other host is 0
  pub wake_a : wake facts files (history_of one) class_a ≡ moment
  pub wake_b : wake facts files (history_of one) class_b ≡ 0
  pub second : answer facts files (history_of one) moment ≡ Gives page_b
  pub needed : verdict facts files (history_of one) page_b moment ≡ Needed
  -- both wakes are the moment, and the robots file goes before the page
  pub third : answer facts files (history_of both) moment ≡ Gives robots_a
  -- while it is out, and while the host waits after it, the other host's robots file goes
  pub fourth : answer facts files (history_of asked_a) moment ≡ Gives robots_b
  pub also_fourth : answer facts files (history_of known_a) moment ≡ Gives robots_b
  -- these events are a legal history
  pub legal : Legal facts files known_a
