-- What a page may do, by what its host's robots file answered.
use Rattle.std.specs.Prelude.{◌≡◌, ℕ, ◌+◌, List, [], ◌∷◌, ◌++◌, Some, codes}
use Rattle.crawl_kinds.specs.declared.event.Event.{Event}
use Rattle.crawl_kinds.specs.declared.event.Event.TheVariants.{Emit, Finish}
use Rattle.crawl_kinds.specs.declared.event.Verdict.{Verdict}
use Rattle.crawl_kinds.specs.declared.event.Verdict.TheVariants.{Allowed, Precluded, Needed, Unsupported, Unreachable}
use Rattle.crawl_kinds.specs.declared.item.Item.{Item}
use Rattle.crawl_kinds.specs.Event.{Finishing}
use Rattle.crawl_history.specs.History.{history_of}
use Rattle.crawl_history.specs.Queues.{queue}
use Rattle.crawl_history.specs.Verdicts.{verdict}
use Rattle.crawl_history.specs.Waits.{wake}
use Rattle.crawl_history.specs.Adds.{item_of, finish_adds}
use Rattle.history_rows.specs.Fetches.{success}
use Rattle.history_rows.specs.Names.{class_a}
use Rattle.history_rows.specs.Pages.{archive, bare_page, redirect, redirect_away, forbids}
use Rattle.history_rows.specs.Toy.{seed, moment}
use Rattle.history_rows.specs.Tickets as tickets

-- a finish of the robots file with this status
abbrev pub robots_end : ℕ → Finishing
robots_end status = record { time = moment; caller = 0; ticket = 2; item = tickets.robots; end = success status moment 0 45 0; adds = [] }

-- the robots file came with this status and adds
abbrev pub came : ℕ → List Item → List Event
came status adds = tickets.asked ++ Emit moment 0 2 Allowed tickets.robots ∷ Finish moment 0 2 tickets.robots (success status moment 0 45 0) adds ∷ []

-- the verdict on the page so much later, where the file has this status and block
abbrev pub verdict_after : ℕ → ℕ → ℕ → Verdict
verdict_after status block later = verdict tickets.facts (archive (block ∷ [])) (history_of (came status [])) tickets.page (moment + later)

-- what a redirect of a robots file adds
abbrev pub moved : Item
moved = item_of tickets.facts (codes "http://a.test/r") (codes "PR") (Some (codes "http://a.test/robots.txt"))

pub record RobotsDecide : Type 0 where
  -- no file: all is allowed
  pub missing : verdict_after 404 bare_page 3000 ≡ Allowed
  -- a file: its text decides, and its delay is kept
  pub permits : verdict_after 200 bare_page 3000 ≡ Allowed
  pub forbidden : verdict_after 200 forbids 3000 ≡ Precluded
  pub delay : wake tickets.facts (archive (forbids ∷ [])) (history_of (came 200 [])) class_a ≡ moment + 7000
  -- a fault of the server: nothing may be asked
  pub fault : verdict_after 503 bare_page 3000 ≡ Unreachable
  -- all of it for a day
  pub last_moment : verdict_after 503 bare_page 86399999 ≡ Unreachable
  pub a_day_later : verdict_after 503 bare_page 86400000 ≡ Needed
  -- a redirect within the host is followed, and goes before the page
  pub follows : finish_adds tickets.facts (archive (redirect ∷ [])) (history_of tickets.asked) (robots_end 301) Allowed ≡ moved ∷ []
  pub goes_first : queue (history_of (came 301 (moved ∷ []))) class_a ≡ moved ∷ tickets.page ∷ []
  -- a redirect to another host is not
  pub away : finish_adds tickets.facts (archive (redirect_away ∷ [])) (history_of tickets.asked) (robots_end 301) Allowed ≡ []
  pub away_allowed : verdict_after 301 redirect_away 3000 ≡ Allowed
  -- https needs a proxy
  pub secure : verdict tickets.facts tickets.files (history_of tickets.begun) (seed (codes "https://a.test/")) moment ≡ Unsupported
