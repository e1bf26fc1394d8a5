-- What a turn does with an item that was handed out.
--     IsLast core one      it was handed out last, and is out
--     IsWorked w core one place before after      it was processed, and this is recorded of it
--     Settles old new one d body place bytes now p      it came to its end, and this is to be written of it
--     Readies w old new one place before after p      both
--     Refuses w core one place before after known adds      its end would add more keys than the job allows
use Rattle.std.specs.Prelude.{◌≡◌, ℕ, List, [], ◌∷◌, ◌++◌, Option, IfSome}
use Rattle.std.specs.List.{AllByRecursion}
use Rattle.crawl_kinds.specs.declared.event.Body.{Body}
use Rattle.crawl_kinds.specs.declared.event.Event.{Event}
use Rattle.crawl_kinds.specs.declared.item.Item.{Item}
use Rattle.crawl_kinds.specs.declared.snapshot.Edge.{Edge}
use Rattle.crawl_kinds.specs.Event.{Finishing}
use Rattle.crawl_traits.specs.declared.link.Exchange.{Exchange}
use Rattle.core_facts.specs.CoreFacts.{Pages}
use Rattle.crawl_history.specs.Facts.{Archive}
use Rattle.frontier_core.specs.Core.{Core, facts}
use Rattle.frontier_core.specs.Emitting.{emit_event, IsHeld}
use Rattle.frontier_core.specs.Finishing.{finish_by, finish_event, IsEnded, IsFinished, IsFullFor, Shows}
use Rattle.frontier_core.specs.declared.emitted.Emitted.{Emitted}
use Rattle.journal_valid.specs.Ends.{IsBody}
use Rattle.journal_valid.specs.Valid.{IsEvent, IsSpelled}
use Rattle.process_chains.specs.Done.{Done, IsDone, payload_of}
use Rattle.process_chains.specs.Endings.{end_with}
use Rattle.process_chains.specs.Ends.{Ended, World}
use Rattle.visit_records.specs.declared.keeping.Prepared.{Prepared}
use Rattle.visit_spec.specs.Lines.{log_line}
use Rattle.visit_spec.specs.Recorded.{IsRecordedAs}

-- its emit is the last event, and it is out
pub record IsLast (core : Core) (one : Emitted) : Type 0 where
  pub before : List Event
  pub last : core.events ≡ before ++ emit_event one ∷ []
  pub held : IsHeld core one
  pub valid : AllByRecursion IsEvent core.events
  pub emit : IsEvent (emit_event one)

-- it was processed, and what is recorded of it stands at the place
pub record IsWorked (w : World) (core : Core) (one : Emitted) (place : Edge) (before after : List Exchange) : Type 0 where
  pub done : Done
  pub is : IsDone done
  pub work : done.work ≡ one.work
  pub settings : done.settings ≡ core.settings
  pub ended : Ended w done.work before after done.ending done.reply
  pub body : Option Body
  pub bytes : List ℕ
  pub recorded : IsRecordedAs place done done.reply body bytes
  pub named : IfSome body IsBody
  pub later : ℕ
  pub given : w.gives later

-- its finish with these adds, at a moment
abbrev pub finish_with : Core → Emitted → Done → Option Body → ℕ → List Item → Finishing
finish_with core one d body now adds = finish_by core one (end_with d.ending body) now adds

-- its finish was put behind the events; record, block and line are what is to be written of it
pub record Settles (old new : Core) (one : Emitted) (d : Done) (body : Option Body) (place : Edge) (bytes : List ℕ) (now : ℕ) (p : Prepared) : Type 0 where
  pub adds : List Item
  pub ended : IsEnded old new one (end_with d.ending body) now (finish_event (finish_with old one d body now adds))
  pub finished :
      (pages : Pages) (a : Archive) → Shows (facts old pages) a (finish_with old one d body now adds) d.links (payload_of d.reply)
      → IsFinished pages a old new one (finish_with old one d body now adds)
  pub valid : IsEvent (finish_event (finish_with old one d body now adds))
  pub place_is : p.place ≡ place
  pub record_is : p.record.items ≡ bytes
  pub frame_is : IsSpelled (emit_event one ∷ finish_event (finish_with old one d body now adds) ∷ []) p.frame
  pub line_is : p.line.items ≡ log_line (finish_event (finish_with old one d body now adds))

-- it was processed and came to its end, and this is to be written of it
pub record Readies (w : World) (old new : Core) (one : Emitted) (place : Edge) (before after : List Exchange) (p : Prepared) : Type 0 where
  pub worked : IsWorked w old one place before after
  pub settled : Settles old new one worked.done worked.body place worked.bytes worked.later p

-- it was processed, and its end would add more keys than the job allows
pub record Refuses (w : World) (core : Core) (one : Emitted) (place : Edge) (before after : List Exchange) (known adds : ℕ) : Type 0 where
  pub worked : IsWorked w core one place before after
  pub full : IsFullFor core one (end_with worked.done.ending worked.body) worked.later worked.done.links known adds
