-- One visit: what a turn leaves of an item that was handed out.
use Rattle.std.proofs.Common.{◌≡◌, ℕ, Bool, true, false, List, [], ◌∷◌, ◌++◌, length, take, Option, Some, None, refl, sym, ◌∙◌, ap, subst, arith, append_assoc, append-nil}
use Rattle.std.specs.Prelude.{IsTrue, if◌then◌else◌}
use Rattle.std.specs.List.{AllByRecursion}
use Rattle.std.proofs.lemmas.List.{take_all}
use Rattle.crawl_kinds.specs.declared.event.Event.{Event}
use Rattle.crawl_kinds.specs.declared.item.Item.{Item}
use Rattle.crawl_kinds.specs.declared.snapshot.Edge.{Edge}
use Rattle.crawl_traits.specs.declared.link.Exchange.{Exchange}
use Rattle.crawl_traits.specs.declared.volume.Volume.{Ghosts}
use Rattle.crawl_history.specs.Emission.{NotYet, Over, answer, answer_by, is_over, next_wake, next_work}
use Rattle.crawl_history.specs.Facts.{Archive, Facts}
use Rattle.crawl_history.specs.History.{History}
use Rattle.core_facts.specs.CoreFacts.{Pages}
use Rattle.finish_laws.specs.Going.{IsByHistory}
use Rattle.frontier_core.specs.Core.{Core, next_time}
use Rattle.frontier_core.specs.Emitting.{emit_event, IsOut, IsStep}
use Rattle.frontier_core.specs.Finishing.{finish_event}
use Rattle.frontier_core.specs.Standing.{Stands}
use Rattle.frontier_core.specs.declared.emitted.Emitted.{Emitted}
use Rattle.journal_valid.specs.Valid.{IsEvent, IsSpelled}
use Rattle.process_chains.specs.Ends.{World}
use Rattle.recover_journal.specs.declared.journal.Journal.{Journal}
use Rattle.visit_records.specs.declared.keeping.Prepared.{Prepared}
use Rattle.visit_records.specs.Written.{Kept}
use Rattle.visit_spec.specs.Crawled.{GoesOn, IsRefused, Keeps, next_place, warc_file}
use Rattle.visit_spec.specs.Recorded.{IsRecordedAs}
use Rattle.visit_spec.specs.Visits.{IsVisit, Visit, events_of, exchanges, finish_of}
use Rattle.polite_crawl.specs.Steps.{IsLast, Readies, Refuses}
use Rattle.polite_crawl.proofs.Events.{all_push}

module _ (w : World) (old out : Core) (one : Emitted) (moment : ℕ) (place : Edge) (went gone : List Exchange) (given : w.gives moment) (emits : IsOut old out 0 moment one) (placed : place ≡ next_place old) where
  module _ (new : Core) (p : Prepared) (r : Readies w out new one place went gone p) where
    -- the visit that was made
    abbrev pub visit : Visit
    visit = record {
      one = one;
      done = r.worked.done;
      body = r.worked.body;
      bytes = r.worked.bytes;
      ended = next_time out r.worked.later;
      adds = r.settled.adds;
      seen = r.worked.ended.seen;
    }

    -- it is one of the core
    abbrev pub visited : IsVisit w old new visit
    visited = record {
      out = out;
      moment = moment;
      given = given;
      emits = emits;
      done = r.worked.is;
      work = r.worked.work;
      settings = r.worked.settings ∙ ap (λ (core : Core). core.settings) emits.kept;
      how = r.worked.ended.ends;
      recorded = subst (λ (at : Edge). IsRecordedAs at r.worked.done r.worked.done.reply r.worked.body r.worked.bytes) placed r.worked.recorded;
      named = r.worked.named;
      later = r.worked.later;
      given_later = r.worked.given;
      time = refl;
      ends = r.settled.ended;
    }

    -- its two events stand behind the others
    pub events_are : new.events ≡ old.events ++ events_of visit
    events_are =
        r.settled.ended.events
        ∙ ap (λ (core : Core). core.events ++ finish_event (finish_of visit) ∷ []) emits.kept
        ∙ append_assoc old.events (emit_event one ∷ []) (finish_event (finish_of visit) ∷ [])

    -- and the settings stay
    pub settings_are : new.settings ≡ old.settings
    settings_are = r.settled.ended.settings ∙ ap (λ (core : Core). core.settings) emits.kept

    -- the events stay valid
    pub events_valid : AllByRecursion IsEvent out.events → AllByRecursion IsEvent new.events
    events_valid valid =
        subst (λ (es : List Event). AllByRecursion IsEvent es) (sym r.settled.ended.events)
        (all_push IsEvent out.events (finish_event (finish_of visit)) valid r.settled.valid)

    -- with what was written of it, it is kept
    pub keeps : {V : Type 0} (of : Ghosts V) (held : List Event) (volume left : V) (journal : Journal) (written shown : List ℕ)
        → ((v : Visit) (is : IsVisit w old new v) → IsByHistory old is.out new v → GoesOn old new (v ∷ [])) → ((pages : Pages) (a : Archive) → Stands pages a old → IsStep pages a old one) → ((pages : Pages) (a : Archive) → Stands pages a old → Stands pages a out)
        → length (of.contents volume (warc_file (next_place old))) ≡ (next_place old).end
        → (IsSpelled (events_of visit) p.frame → length (of.contents volume (warc_file p.place)) ≡ p.place.end → Kept of journal volume left (warc_file p.place) (held ++ events_of visit) p.record.items)
        → shown ≡ written ++ p.line.items
        → Keeps of w old new held journal volume left written shown went gone (visit ∷ []) []
    keeps of held volume left journal written shown law step stands long kept line =
        let at : p.place ≡ next_place old = r.settled.place_is ∙ placed in
        let k : Kept of journal volume left (warc_file (next_place old)) (held ++ events_of visit) p.record.items =
        subst (λ (e : Edge). Kept of journal volume left (warc_file e) (held ++ events_of visit) p.record.items) at
        (kept r.settled.frame_is (subst (λ (e : Edge). length (of.contents volume (warc_file e)) ≡ e.end) (sym at) long)) in
        let before : List ℕ = of.contents volume (warc_file (next_place old)) in
        let whole : take (next_place old).end before ≡ before = take_all (next_place old).end before (omega (arith, long)) in
        record {
          are = (new, visited, refl);
          core = events_are;
          goes_on = law visit visited (record { step = step; stands = stands; finished = r.settled.finished });
          rests = k.rests;
          records = k.grown ∙ ap (λ (l : List ℕ). l ++ p.record.items) (sym whole)
              ∙ ap (λ (l : List ℕ). take (next_place old).end before ++ l) (r.settled.record_is ∙ sym (append-nil r.worked.bytes));
          others = k.others;
          lines = line ∙ ap (λ (l : List ℕ). written ++ l) (r.settled.line_is ∙ sym (append-nil _));
          over_link = λ tells. r.worked.ended.went tells
              ∙ ap (λ (l : List Exchange). went ++ l) (sym (append-nil (exchanges (visit ∷ [])) ∙ append-nil r.worked.ended.seen));
        }

  -- and where its end would add too many keys it is refused
  pub refused : (known adds : ℕ) (f : Refuses w out one place went gone known adds)
      → (seen : List Exchange) × IsRefused w old known adds seen × (IsTrue w.tells → gone ≡ went ++ seen)
  refused known adds f = (
    f.worked.ended.seen,
    record {
      out = out;
      one = one;
      moment = moment;
      given = given;
      emits = emits;
      done = f.worked.done;
      is = f.worked.is;
      work = f.worked.work;
      settings = f.worked.settings ∙ ap (λ (core : Core). core.settings) emits.kept;
      how = f.worked.ended.ends;
      body = f.worked.body;
      bytes = f.worked.bytes;
      recorded = subst (λ (at : Edge). IsRecordedAs at f.worked.done f.worked.done.reply f.worked.body f.worked.bytes) placed f.worked.recorded;
      later = f.worked.later;
      given_later = f.worked.given;
      full = f.full;
    },
    f.worked.ended.went,
  )

-- what was handed out is the last event, and it is out
pub out_last : (old out : Core) (moment : ℕ) (one : Emitted) → IsOut old out 0 moment one → AllByRecursion IsEvent old.events → IsEvent (emit_event one) → IsLast out one
out_last old out moment one emits valid emit = record {
  before = old.events;
  last = ap (λ (core : Core). core.events) emits.kept;
  held = emits.held;
  valid = subst (λ (core : Core). AllByRecursion IsEvent core.events) (sym emits.kept) (all_push IsEvent old.events (emit_event one) valid emit);
  emit = emit;
}

-- what is over is not left for later
picked : (b : Bool) (next : Option ℕ) → (if b then Over else NotYet next) ≡ Over → b ≡ true
picked true next e = refl
picked false next e = absurd (cc (e))

-- whether or not an item may go
over_of : (f : Facts) (a : Archive) (h : History) (t : ℕ) (o : Option Item) → answer_by f a h t o ≡ Over → is_over f a h t ≡ true
over_of f a h t (Some item) e = absurd (cc (e))
over_of f a h t None e = picked (is_over f a h t) (next_wake f a h t) e

-- what is answered to be over is over
pub over_by : (f : Facts) (a : Archive) (h : History) (t : ℕ) → answer f a h t ≡ Over → is_over f a h t ≡ true
over_by f a h t e = over_of f a h t (next_work f a h t) e
