-- The core of a crawl: its settings, its scope, its events so far, and what it keeps of robots files.
--     history core, facts core pages      their history, and its facts over any pages
--     robots_at core class      what is kept of the robots file of a class
--     with_event core e      the core with one event more
--     next_time core now      the time of an event at a moment
--     known_count core      how many keys are somewhere
--     absent_count core items      how many of these items have a key that is nowhere
--     seed_adds core pages list      the items that seeds add
use Rattle.std.specs.Prelude.{ℕ, min, max, List, [], ◌∷◌, ◌++◌, count_by, length, Option}
use Rattle.std.specs.BTreeMap.{is_at}
use Rattle.std.specs.Cmp.Lexicographic.{slice_cmp}
use Rattle.std.specs.Map.{lookup}
use Rattle.std.specs.Ordering.{nat_cmp}
use Rattle.crawl_kinds.specs.declared.settings.Settings.{Settings}
use Rattle.crawl_kinds.specs.declared.event.TheConstants.{MAX_MS}
use Rattle.crawl_kinds.specs.declared.event.Event.{Event}
use Rattle.crawl_kinds.specs.declared.item.Item.{Item}
use Rattle.crawl_history.specs.History.{History, history_of, last_time}
use Rattle.crawl_history.specs.Places.{is_absent, known_keys, place_of}
use Rattle.crawl_history.specs.Facts.{Facts}
use Rattle.crawl_history.specs.Adds.{seed_candidates, new_items}
use Rattle.scope_spec.specs.Decision.{ScopeRules}
use Rattle.core_facts.specs.CoreFacts.{Pages, facts_with}
use Rattle.frontier_core.specs.declared.robots.KeptRobots.{KeptRobots}

pub record Core : Type 0 where
  pub settings : Settings
  pub scope : ScopeRules
  pub events : List Event
  -- by class, in byte order
  pub robots : List (List ℕ × KeptRobots)

-- its events from the start
abbrev pub history : Core → History
history core = history_of core.events

-- the facts that its settings and its scope give, over these pages
abbrev pub facts : Core → Pages → Facts
facts core pages = facts_with core.settings (core.scope ∷ []) pages

-- with one event more
abbrev pub with_event : Core → Event → Core
with_event core e = record core { events = core.events ++ e ∷ [] }

-- what is kept of the robots file of this class
abbrev pub robots_at : Core → List ℕ → Option KeptRobots
robots_at core class = lookup (is_at (slice_cmp nat_cmp class)) core.robots

-- a moment, cut at the latest one, and no earlier than any event
abbrev pub next_time : Core → ℕ → ℕ
next_time core now = max (last_time (history core)) (min now MAX_MS)

-- how many keys are somewhere
abbrev pub known_count : Core → ℕ
known_count core = length (known_keys (history core))

-- how many of these items have a key that is nowhere
abbrev pub absent_count : Core → List Item → ℕ
absent_count core items = count_by (λ i. is_absent (place_of (history core) i.key)) items

-- the items that these seeds add: those in scope whose key is nowhere, each key once
abbrev pub seed_adds : Core → Pages → List (List ℕ) → List Item
seed_adds core pages list = new_items (facts core pages) (history core) (seed_candidates (facts core pages) list)
