-- What an emit answers and makes.
--     IsHeld core one      what was handed out is out
--     IsOut old new caller now one      it went out, as one event more
--     IsValidAnswer answer      what was handed out can be spelled
--     Moves old new caller now answer      what an answer does to the core
--     HeldLaws      that it stays out until its end
--     IsStep pages a core one, Answers pages a core now answer      the answer is that of the history
use Rattle.std.specs.Prelude.{◌≡◌, ◌≤◌, ℕ, ◌+◌, ◌==◌, ◌&&◌, false, [], ◌∷◌, ◌++◌, Some, is_none, IfSome, ⊤}
use Rattle.crawl_kinds.specs.declared.event.Event.{Event}
use Rattle.crawl_kinds.specs.declared.event.Event.TheVariants.{Emit}
use Rattle.crawl_kinds.specs.declared.event.Verdict.TheVariants.{Allowed}
use Rattle.crawl_kinds.specs.Event.{Emission, finish_of}
use Rattle.crawl_history.specs.Counts.{try_number}
use Rattle.crawl_history.specs.Emission as emission
use Rattle.crawl_history.specs.Facts.{Archive}
use Rattle.crawl_history.specs.History.{is_session, ticket_count}
use Rattle.crawl_history.specs.Steps.{Legal, Permits, Step}
use Rattle.crawl_history.specs.Tickets.{emit_out}
use Rattle.core_facts.specs.CoreFacts.{Pages, is_secure}
use Rattle.frontier_core.specs.Core.{Core, history, facts, next_time, with_event}
use Rattle.frontier_core.specs.declared.emitted.Answer.{Answer}
use Rattle.frontier_core.specs.declared.emitted.Answer.TheVariants as answered
use Rattle.frontier_core.specs.declared.emitted.Emitted.{Emitted}
use Rattle.frontier_memo.specs.Fits.{Fits}
use Rattle.journal_valid.specs.Valid.{IsEvent}

-- the event of what was handed out
abbrev pub emit_event : Emitted → Event
emit_event one = Emit one.work.at one.caller one.ticket one.work.verdict one.work.item

-- the emit of what was handed out
abbrev pub emission_of : Emitted → Emission
emission_of one =
    record { time = one.work.at; caller = one.caller; ticket = one.ticket; verdict = one.work.verdict; item = one.work.item }

-- it is out
abbrev pub IsHeld : Core → Emitted → Type 0
IsHeld core one = emit_out (history core) one.ticket ≡ Some (emission_of one)

-- its event is put behind the others, at the next time and under the next ticket; its item waits
pub record IsOut (old new : Core) (caller now : ℕ) (one : Emitted) : Type 0 where
  pub kept : new ≡ with_event old (emit_event one)
  pub fits : Fits (history old) (emit_event one)
  pub at : one.work.at ≡ next_time old now
  pub asked_by : one.caller ≡ caller
  pub ticket : one.ticket ≡ ticket_count (history old) + 1
  pub held : IsHeld new one
  -- tries are counted from 1, and what is allowed is not of https, or has a proxy
  pub tries : 1 ≤ one.work.tries
  pub allowed : one.work.verdict ≡ Allowed → (is_secure one.work.item.uri && is_none old.settings.proxy) ≡ false

-- the event of what was handed out is valid
abbrev pub IsValidAnswer : Answer → Type 0
IsValidAnswer (answered.Work one) = IsEvent (emit_event one)
IsValidAnswer (answered.Empty next) = ⊤
IsValidAnswer answered.Over = ⊤

-- without an item nothing changes
abbrev pub Moves : Core → Core → ℕ → ℕ → Answer → Type 0
Moves old new caller now (answered.Work one) = IsOut old new caller now one
Moves old new caller now (answered.Empty next) = new ≡ old
Moves old new caller now answered.Over = new ≡ old

-- the history gives this item with this verdict, under this ticket
pub record IsStep (pages : Pages) (a : Archive) (core : Core) (one : Emitted) : Type 0 where
  pub permits : Permits (facts core pages) a (history core) (emit_event one)
  -- after a legal history that is one step, and the work says which try it is
  pub step : Legal (facts core pages) a core.events → Step (facts core pages) a (history core) (emit_event one)
  pub tries : Legal (facts core pages) a core.events → one.work.tries ≡ try_number (history core) one.work.item.key

-- what is answered is what the history answers at the next time
abbrev pub Answers : Pages → Archive → Core → ℕ → Answer → Type 0
Answers pages a core now (answered.Work one) = IsStep pages a core one
Answers pages a core now (answered.Empty next) = emission.answer (facts core pages) a (history core) (next_time core now) ≡ emission.NotYet next
Answers pages a core now answered.Over = emission.answer (facts core pages) a (history core) (next_time core now) ≡ emission.Over

-- what follows from the definitions
pub record HeldLaws : Type 0 where
  -- what is out stays so through an event that begins no session and ends no such ticket
  pub stays :
      (old new : Core) (e : Event) (one : Emitted) → new.events ≡ old.events ++ e ∷ [] → is_session e ≡ false
      → IfSome (finish_of e) (λ c. (c.ticket == one.ticket) ≡ false) → IsHeld old one → IsHeld new one
