-- What the core asks of the end of an item holds of what was processed.
--     ProcessedMayEnd      links, payload and end are those of the pages, and the record stands at the next place
use Rattle.std.specs.Prelude.{◌≡◌, ℕ, List, Option, IfSome}
use Rattle.crawl_kinds.specs.declared.event.Body.{Body}
use Rattle.crawl_kinds.specs.Event.{Finishing}
use Rattle.crawl_history.specs.Citations.{cited_end}
use Rattle.crawl_history.specs.Counts.{try_number}
use Rattle.crawl_history.specs.Facts.{Archive}
use Rattle.core_facts.specs.CoreFacts.{Pages}
use Rattle.crawl_facts.specs.Pages.{ArePages}
use Rattle.frontier_core.specs.Core.{Core, facts, history}
use Rattle.frontier_core.specs.Finishing.{MayEnd, Shows}
use Rattle.frontier_core.specs.declared.emitted.Emitted.{Emitted}
use Rattle.journal_valid.specs.Ends.{IsBody}
use Rattle.process_chains.specs.Done.{Done, IsDone, payload_of}
use Rattle.process_chains.specs.Endings.{end_with}
use Rattle.visit_spec.specs.Recorded.{HoldsReply, IsRecorded}

-- this came of what was handed out by this core, and the finish ends it so, with this body
pub record IsEndFor (core : Core) (one : Emitted) (d : Done) (body : Option Body) (c : Finishing) : Type 0 where
  pub done : IsDone d
  pub settings : d.settings ≡ core.settings
  pub work : d.work ≡ one.work
  pub item : c.item ≡ one.work.item
  pub end : c.end ≡ end_with d.ending body

pub record ProcessedMayEnd : Type 0 where
  -- links and payload are those of the response
  pub shows :
      (pages : Pages) (a : Archive) (core : Core) (one : Emitted) (d : Done) (body : Option Body) (bytes : List ℕ) (c : Finishing)
      → ArePages core.settings pages → IsEndFor core one d body c → IsRecorded (cited_end (history core)) d body bytes → HoldsReply a d body
      → Shows (facts core pages) a c d.links (payload_of d.reply)
  -- and the end may stand behind the core's events
  pub may_end :
      (pages : Pages) (a : Archive) (core : Core) (one : Emitted) (d : Done) (body : Option Body) (bytes : List ℕ) (c : Finishing)
      → ArePages core.settings pages → IsEndFor core one d body c → IsRecorded (cited_end (history core)) d body bytes → HoldsReply a d body
      → one.work.tries ≡ try_number (history core) one.work.item.key → IfSome body IsBody
      → MayEnd pages a core one c
