-- Visits: how each item that was handed out went, in order, and what the files and the output hold of them.
--     events visits      their events: an Emit and a Finish for each
--     warc visits, log visits, exchanges visits      their records, their lines, and what went over the link
--     IsVisit w old new v      a core went from one state to another by the visit
--     AreVisits w old new visits      and by these, in order
--     HoldsVisits a visits      the archive has the blocks of their records
use Rattle.std.specs.Prelude.{◌≡◌, ℕ, List, [], ◌∷◌, flat_map, Option, IfSome}
use Rattle.std.specs.List.{AllByRecursion}
use Rattle.crawl_kinds.specs.declared.event.Body.{Body}
use Rattle.crawl_kinds.specs.declared.event.End.{End}
use Rattle.crawl_kinds.specs.declared.event.Event.{Event}
use Rattle.crawl_kinds.specs.declared.item.Item.{Item}
use Rattle.crawl_kinds.specs.Event.{Finishing}
use Rattle.crawl_traits.specs.declared.link.Exchange.{Exchange}
use Rattle.crawl_history.specs.Citations.{cited_end}
use Rattle.crawl_history.specs.Facts.{Archive}
use Rattle.frontier_core.specs.Core.{Core, history}
use Rattle.frontier_core.specs.Emitting.{emit_event, IsOut}
use Rattle.frontier_core.specs.Finishing.{finish_by, finish_event, IsEnded}
use Rattle.frontier_core.specs.declared.emitted.Emitted.{Emitted}
use Rattle.journal_valid.specs.Ends.{IsBody}
use Rattle.process_chains.specs.Done.{Done, IsDone}
use Rattle.process_chains.specs.Endings.{end_with}
use Rattle.process_chains.specs.Ends.{World, Ends}
use Rattle.visit_spec.specs.Lines.{line_of}
use Rattle.visit_spec.specs.Recorded.{HoldsReply, IsRecorded}

pub record Visit : Type 0 where
  -- what was handed out, and what came of it
  pub one : Emitted
  pub done : Done
  -- what the journal says of its record, and the record; none where no whole response came
  pub body : Option Body
  pub bytes : List ℕ
  -- when it came to its end, and what it added
  pub ended : ℕ
  pub adds : List Item
  -- what went over its connection; nothing where none was made
  pub seen : List Exchange

-- its end
abbrev pub end_of : Visit → End
end_of v = end_with v.done.ending v.body

-- its finish
abbrev pub finish_of : Visit → Finishing
finish_of v = record { time = v.ended; caller = v.one.caller; ticket = v.one.ticket; item = v.one.work.item; end = end_of v; adds = v.adds }

-- it is handed out, and comes to its end
abbrev pub events_of : Visit → List Event
events_of v = emit_event v.one ∷ finish_event (finish_of v) ∷ []

abbrev pub events : List Visit → List Event
events visits = flat_map events_of visits

-- the records, in order
abbrev pub warc : List Visit → List ℕ
warc visits = flat_map (λ v. v.bytes) visits

abbrev pub log : List Visit → List ℕ
log visits = flat_map (λ v. line_of v.done.ending.outcome v.done.ending.code v.one.work.item.uri) visits

-- all that went over the link
abbrev pub exchanges : List Visit → List Exchange
exchanges visits = flat_map (λ v. v.seen) visits

-- The first worker was given the item, at a moment of the clock. It ended as its verdict and the link had it; its record
-- stands behind the last cited one; and its end was put behind the events at a later moment of the clock.
pub record IsVisit (w : World) (old new : Core) (v : Visit) : Type 0 where
  pub out : Core
  pub moment : ℕ
  pub given : w.gives moment
  pub emits : IsOut old out 0 moment v.one
  pub done : IsDone v.done
  pub work : v.done.work ≡ v.one.work
  pub settings : v.done.settings ≡ old.settings
  pub how : Ends w v.done.work v.done.ending v.done.reply v.seen
  pub recorded : IsRecorded (cited_end (history old)) v.done v.body v.bytes
  pub named : IfSome v.body IsBody
  pub later : ℕ
  pub given_later : w.gives later
  pub time : v.ended ≡ (finish_by out v.one (end_of v) later v.adds).time
  pub ends : IsEnded out new v.one (end_of v) later (finish_event (finish_of v))

-- by these, in order
abbrev pub AreVisits : World → Core → Core → List Visit → Type 0
AreVisits w old new [] = new ≡ old
AreVisits w old new (v ∷ visits) = (mid : Core) × IsVisit w old mid v × AreVisits w mid new visits

-- the archive has the block of each record
abbrev pub HoldsVisits : Archive → List Visit → Type 0
HoldsVisits a visits = AllByRecursion (λ v. HoldsReply a v.done v.body) visits
