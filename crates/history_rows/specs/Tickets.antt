-- A page behind its robots file: the robots file is needed, it goes out, and three seconds later the page.
use Rattle.std.specs.Prelude.{◌≡◌, ℕ, ◌+◌, true, List, [], ◌∷◌, ◌++◌, map, Some, None, codes, pos}
use Rattle.crawl_kinds.specs.declared.event.Event.{Event}
use Rattle.crawl_kinds.specs.declared.event.Event.TheVariants.{Seeds, Emit, Finish}
use Rattle.crawl_kinds.specs.declared.event.Verdict.TheVariants.{Allowed, Needed}
use Rattle.crawl_kinds.specs.declared.event.Outcome.TheVariants.{Retry}
use Rattle.crawl_kinds.specs.declared.event.Place.TheVariants.{Absent, Waiting, Done}
use Rattle.crawl_kinds.specs.declared.item.Item.{Item}
use Rattle.crawl_kinds.specs.Event.{Finishing}
use Rattle.crawl_history.specs.Codes.{robots_needed}
use Rattle.crawl_history.specs.Facts.{Facts, Archive, Link}
use Rattle.crawl_history.specs.History.{history_of}
use Rattle.crawl_history.specs.Places.{place_of}
use Rattle.crawl_history.specs.Queues.{queue}
use Rattle.crawl_history.specs.Verdicts.{verdict}
use Rattle.crawl_history.specs.Emission.{answer, Gives, NotYet}
use Rattle.crawl_history.specs.Adds.{item_of, finish_adds}
use Rattle.crawl_history.specs.Ends.{end_without_fetch}
use Rattle.crawl_history.specs.Steps.{Legal}
use Rattle.history_promises.specs.Complete.{is_complete}
use Rattle.history_promises.specs.Polite.{all_timely}
use Rattle.history_rows.specs.Fetches.{success}
use Rattle.history_rows.specs.Names.{class_a}
use Rattle.history_rows.specs.Pages.{archive, bare_page, three_links, forty_links, link, count_up}
use Rattle.history_rows.specs.Toy.{sample, toy, opened, seed, moment}

-- the small world
abbrev pub facts : Facts
facts = toy sample

-- the robots file and the page
abbrev pub files : Archive
files = archive (bare_page ∷ three_links ∷ [])

-- the page
abbrev pub page : Item
page = seed (codes "http://a.test/")

-- its robots file
abbrev pub robots : Item
robots = item_of facts (codes "http://a.test/robots.txt") (codes "P") (Some (codes "http://a.test/"))

-- the item of a link of the page
abbrev pub linked : Link → Item
linked l = item_of facts l.uri (codes "L") (Some (codes "http://a.test/"))

-- the first n links
abbrev pub linked_items : ℕ → List Item
linked_items n = map (λ k. linked (link k)) (count_up n 0)

-- the page is a seed
abbrev pub begun : List Event
begun = opened ∷ Seeds moment (codes "http://a.test/" ∷ []) (page ∷ []) ∷ []

-- its robots file is needed first
abbrev pub asked : List Event
asked = begun ++ Emit moment 0 1 Needed page ∷ Finish moment 0 1 page (end_without_fetch Retry robots_needed 1) (robots ∷ []) ∷ []

-- there is none
abbrev pub known : List Event
known = asked ++ Emit moment 0 2 Allowed robots ∷ Finish moment 0 2 robots (success 404 moment 0 45 0) [] ∷ []

-- the page is out
abbrev pub taken : List Event
taken = known ++ Emit (moment + 3000) 0 3 Allowed page ∷ []

-- the page with forty links
abbrev pub long_page : Finishing
long_page = record { time = moment + 3000; caller = 0; ticket = 3; item = page; end = success 200 (moment + 3000) 0 945 1; adds = linked_items 40 }

-- the page with three links
abbrev pub page_end : Event
page_end = Finish (moment + 3000) 0 3 page (success 200 (moment + 3000) 0 945 1) (linked_items 3)

-- and came
abbrev pub ended : List Event
ended = taken ++ page_end ∷ []

pub record TicketsGoOn : Type 0 where
  -- ticket 1 is the page, whose robots file is needed
  pub first : answer facts files (history_of begun) moment ≡ Gives page
  pub needed : verdict facts files (history_of begun) page moment ≡ Needed
  -- ticket 2 is the robots file, at once
  pub second : answer facts files (history_of asked) moment ≡ Gives robots
  pub allowed : verdict facts files (history_of asked) robots moment ≡ Allowed
  -- ticket 3 is the page, three seconds later and not before
  pub snoozes : answer facts files (history_of known) (moment + 2999) ≡ NotYet (Some (moment + 3000))
  pub third : answer facts files (history_of known) (moment + 3000) ≡ Gives page
  pub free : verdict facts files (history_of known) page (moment + 3000) ≡ Allowed
  -- an item that is out has the place and stands in the queue that it had
  pub out_waits : place_of (history_of taken) page.key ≡ Waiting
  pub out_queued : queue (history_of taken) class_a ≡ page ∷ []
  -- nothing is over while it is out
  pub not_over : answer facts files (history_of taken) (moment + 3000) ≡ NotYet None
  -- it adds its forty links
  pub adds : finish_adds facts (archive (bare_page ∷ forty_links ∷ [])) (history_of taken) long_page Allowed ≡ linked_items 40
  -- each key is where the last event that names it puts it
  pub done : place_of (history_of ended) page.key ≡ Done (pos 200)
  pub robots_done : place_of (history_of ended) robots.key ≡ Done (pos 404)
  pub link_waits : place_of (history_of ended) (codes "http://a.test/p02") ≡ Waiting
  pub nowhere : place_of (history_of ended) (codes "http://a.test/p03") ≡ Absent
  -- these events are a legal history, complete and polite
  pub legal : Legal facts files ended
  pub complete : is_complete facts files ended ≡ true
  pub polite : all_timely facts files (history_of []) ended ≡ true
