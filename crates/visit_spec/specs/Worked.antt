-- Worked examples of visits: a page that needs its robots file first, that file, and the page again.
use Rattle.std.specs.Prelude.{◌≡◌, ◌+◌, ℕ, List, [], ◌∷◌, flat_map, Option, Some, None, codes}
use Rattle.crawl_kinds.specs.declared.event.Body.{Body}
use Rattle.crawl_kinds.specs.declared.event.Event.TheVariants.{Emit, Finish}
use Rattle.crawl_kinds.specs.declared.event.Fetch.{Fetch}
use Rattle.crawl_kinds.specs.declared.event.Outcome.TheVariants.{Failure, Retry}
use Rattle.crawl_kinds.specs.declared.event.Verdict.{Verdict}
use Rattle.crawl_kinds.specs.declared.event.Verdict.TheVariants.{Allowed, Needed}
use Rattle.crawl_kinds.specs.declared.item.Item.{Item}
use Rattle.crawl_kinds.specs.declared.settings.Settings.{Settings}
use Rattle.crawl_kinds.specs.declared.snapshot.Edge.{Edge}
use Rattle.crawl_history.specs.Citations.{cited_end}
use Rattle.crawl_history.specs.Codes.{no_cause, robots_needed, too_many_tries}
use Rattle.crawl_history.specs.History.{history_of}
use Rattle.crawl_facts.specs.Pages.{place_after, spot_at}
use Rattle.frontier_core.specs.declared.emitted.Emitted.{Emitted}
use Rattle.http_message.specs.declared.front.Reply.{Reply}
use Rattle.process_chains.specs.Done.{Done}
use Rattle.process_chains.specs.Endings.{answered, ending}
use Rattle.process_chains.specs.declared.ending.Ending.{Ending}
use Rattle.visit_spec.specs.Lines.{line_of, log_line}
use Rattle.visit_spec.specs.Recorded.{IsRecorded}
use Rattle.visit_spec.specs.Visits.{Visit, events, log, warc}

-- an item of the host
abbrev item : List ℕ → List ℕ → Item
item uri path = record { key = uri; uri = uri; class = codes "test,a,#http"; path = path; via = None; rank = 3 }

-- its page, and its robots file
abbrev page : Item
page = item (codes "http://a.test/") []

abbrev robots : Item
robots = item (codes "http://a.test/robots.txt") (codes "P")

-- an item goes out at this time, under this ticket, at its first try
abbrev out : ℕ → ℕ → Verdict → Item → Emitted
out time ticket verdict item =
    record { work = record { item = item; verdict = verdict; at = time; tries = 1 }; ticket = ticket; caller = 0 }

-- a fetch of 20 milliseconds that begins then
abbrev fetch : ℕ → Fetch
fetch time = record { start = time; duration = 20 }

-- a whole response with this status
abbrev reply : ℕ → Reply
reply status = record { status = status; media = codes "no-type"; head_len = 3; block = codes "abcde" }

-- what came of what went out
abbrev done : Settings → Emitted → Ending → Option Reply → Done
done settings one ending reply =
    record { work = one.work; settings = settings; ending = ending; request = []; reply = reply; links = [] }

-- the page needs its robots file, and waits
abbrev waits : Settings → Visit
waits settings =
    record {
      one = out 1000 1 Needed page;
      done = done settings (out 1000 1 Needed page) (ending Retry robots_needed None 1 no_cause) None;
      body = None;
      bytes = [];
      ended = 1000;
      adds = robots ∷ [];
      seen = [];
    }

-- what is recorded of a response at this place in so many bytes
abbrev body : ℕ → ℕ → Body
body at len = record { size = 5; media = codes "no-type"; digest = codes "sha1:"; spot = spot_at (record { file = 0; end = at }) len }

-- an allowed item comes whole, and its record of these bytes stands at this place
abbrev comes : Settings → Emitted → ℕ → ℕ → ℕ → List ℕ → Visit
comes settings one status at len bytes =
    record {
      one = one;
      done = done settings one (answered status (fetch one.work.at) 1) (Some (reply status));
      body = Some (body at len);
      bytes = bytes;
      ended = one.work.at + 20;
      adds = [];
      seen = [];
    }

-- the three in order
abbrev visits : Settings → List Visit
visits settings =
    waits settings ∷ comes settings (out 1000 2 Allowed robots) 404 0 7 (codes "robots;")
    ∷ comes settings (out 4000 3 Allowed page) 200 7 5 (codes "page;") ∷ []

pub record AreWorked : Type 0 where
  -- an Emit and a Finish for each
  pub of_one :
      (settings : Settings)
      → events (waits settings ∷ [])
      ≡ Emit 1000 0 1 Needed page
      ∷ Finish 1000 0 1 page (record { outcome = Retry; code = robots_needed; fetch = None; body = None; notes = record { cut = None; tries = 1; cause = no_cause } }) (robots ∷ [])
      ∷ []
  -- a line for each but what is tried again
  pub output : (settings : Settings) → log (visits settings) ≡ codes "404 http://a.test/robots.txt\n200 http://a.test/\n"
  pub failure : line_of Failure too_many_tries (codes "http://a.test/") ≡ codes "-8 http://a.test/\n"
  -- the output has the lines of the events, whatever the visits are
  pub output_of : (some : List Visit) → flat_map log_line (events some) ≡ log some
  -- records stand one behind another, and the next goes behind them
  pub archive : (settings : Settings) → warc (visits settings) ≡ codes "robots;page;"
  pub next : (settings : Settings) → place_after (cited_end (history_of (events (visits settings)))) ≡ record { file = 0; end = 12 }
  -- without a response nothing is recorded
  pub unrecorded : (settings : Settings) (edge : Option Edge) → IsRecorded edge (waits settings).done None []
  pub unnamed : (settings : Settings) (edge : Option Edge) (own : Body) (bytes : List ℕ) → ¬ (IsRecorded edge (waits settings).done (Some own) bytes)
