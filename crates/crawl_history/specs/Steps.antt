-- The steps of a history.
--     Finishes f a h m c      the finish c may end the emit m
--     Permits f a h e      what h asks of an event of this kind
--     Step f a h e      the event e may stand after h
--     Legal f a events      each event is a step after those before it
use Rattle.std.specs.Prelude.{◌≡◌, ℕ, ◌+◌, ◌≤◌, Bool, ◌||◌, nat_lt, List, [], ◌∷◌, Option, Some, None, IsTrue, length, ⊤}
use Rattle.crawl_kinds.specs.declared.event.TheConstants.{MAX_MS}
use Rattle.crawl_kinds.specs.declared.event.Event.{Event}
use Rattle.crawl_kinds.specs.declared.event.Event.TheVariants.{Session, Seeds, Emit, Finish}
use Rattle.crawl_kinds.specs.Event.{Emission, Finishing, time_of}
use Rattle.crawl_history.specs.History.{History, history_of, with_event, ticket_count, last_time, is_session}
use Rattle.crawl_history.specs.Places.{known_keys}
use Rattle.crawl_history.specs.Counts.{try_number}
use Rattle.crawl_history.specs.Tickets.{emit_out}
use Rattle.crawl_history.specs.Facts.{Facts, Archive}
use Rattle.crawl_history.specs.Verdicts.{verdict}
use Rattle.crawl_history.specs.Emission.{answer, Gives}
use Rattle.crawl_history.specs.Adds.{seed_candidates, new_items, finish_adds}
use Rattle.crawl_history.specs.Ends.{Suits}
use Rattle.crawl_history.specs.Citations.{IsPlacedNext}

-- the finish c of the emit m
pub record Finishes (f : Facts) (a : Archive) (h : History) (m : Emission) (c : Finishing) : Type 0 where
  -- it comes from the caller of the emit, with its item
  pub caller : c.caller ≡ m.caller
  pub item : c.item ≡ m.item
  -- its end suits the verdict, at the next try of the key
  pub suits : Suits f a (try_number h m.item.key) c.item c.end m.verdict
  -- it adds what such a finish adds
  pub adds : c.adds ≡ finish_adds f a h c m.verdict
  -- what it recorded stands at the next place
  pub spot : IsPlacedNext f a h c c.end.body

-- the emit is out, and the finish may end it
abbrev pub FinishesOne : Facts → Archive → History → Finishing → Option Emission → Type 0
FinishesOne f a h c None = ⊥
FinishesOne f a h c (Some m) = Finishes f a h m c

-- how many callers there may be
abbrev pub last_caller : ℕ
last_caller = 31

-- what h asks of an event of this kind
abbrev pub Permits : Facts → Archive → History → Event → Type 0
Permits f a h (Session time job format) = (job ≡ f.settings.name) × (format ≡ 1)
Permits f a h (Seeds time list adds) = adds ≡ new_items f h (seed_candidates f list)
Permits f a h (Emit time caller ticket verdict' item) =
    (answer f a h time ≡ Gives item) × (verdict' ≡ verdict f a h item time) × (ticket ≡ ticket_count h + 1) × (caller ≤ last_caller)
Permits f a h (Finish time caller ticket item end adds) =
    FinishesOne f a h (record { time = time; caller = caller; ticket = ticket; item = item; end = end; adds = adds }) (emit_out h ticket)

-- whether the first event is a session
abbrev pub is_opened : History → Event → Bool
is_opened h e = nat_lt 0 (h.base.events + length h.events) || is_session e

-- the event e may stand after h
pub record Step (f : Facts) (a : Archive) (h : History) (e : Event) : Type 0 where
  -- the first event of all is a session
  pub opened : IsTrue (is_opened h e)
  -- times do not fall, and end with the year 9999
  pub later : last_time h ≤ time_of e
  pub in_time : time_of e ≤ MAX_MS
  -- the journal can spell it
  pub valid : IsTrue (f.is_valid e)
  -- it is as its kind asks
  pub permits : Permits f a h e
  -- and afterwards no more keys are known than the job allows
  pub room : length (known_keys (with_event h e)) ≤ f.settings.max_keys

-- each of the events is a step, from h on
abbrev pub Steps : Facts → Archive → History → List Event → Type 0
Steps f a h [] = ⊤
Steps f a h (e ∷ es) = Step f a h e × Steps f a (with_event h e) es

-- each event is a step after those before it
abbrev pub Legal : Facts → Archive → List Event → Type 0
Legal f a events = Steps f a (history_of []) events
