-- The end of an item that was handed out last: its two events, and what is to be written of it.
use Rattle.std.proofs.Common.{◌≡◌, ◌≤◌, ◌+◌, ◌-◌, ℕ, List, [], ◌∷◌, ◌++◌, length, take, drop, Option, refl, sym, ◌∙◌, ap, subst, arith, append_assoc, length-append}
use Rattle.std.proofs.Math.Seq.{drop-append_seam}
use Rattle.std.proofs.lemmas.List.{take_all}
use Rattle.crawl_kinds.specs.declared.event.Body.{Body}
use Rattle.crawl_kinds.specs.declared.event.End.{End}
use Rattle.crawl_kinds.specs.declared.event.Event.{Event}
use Rattle.crawl_kinds.specs.Event.{Finishing, adds_of}
use Rattle.core_facts.specs.CoreFacts.{Pages}
use Rattle.crawl_history.specs.Facts.{Archive}
use Rattle.extract_spec.specs.Links.{most_links}
use Rattle.extract_spec.specs.declared.found.Found.{Found}
use Rattle.frontier_core.specs.Core.{Core, facts, history}
use Rattle.frontier_core.specs.Emitting.{emit_event}
use Rattle.frontier_core.specs.Finishing.{finish_by, finish_event, IsEnded, IsFinished, Shows}
use Rattle.frontier_core.specs.declared.emitted.Emitted.{Emitted}
use Rattle.frontier_memo.specs.Fits.{Fits}
use Rattle.journal_valid.specs.Valid.{IsEvent, IsSpelled}
use Rattle.process_chains.specs.Done.{Done, payload_of}
use Rattle.process_chains.specs.Endings.{end_with}
use Rattle.visit_records.specs.declared.keeping.Prepared.{Prepared}
use Rattle.visit_records.specs.Written.{IsTurn}
use Rattle.visit_spec.specs.Lines.{log_line}
use Rattle.polite_crawl.specs.Steps.{finish_with, IsLast, Settles}

-- what stands from the last of some events on, where more came
tail_is : (before was all more : List Event) (x : Event) → was ≡ before ++ x ∷ [] → all ≡ before ++ more
    → take (length all - (length was - 1)) (drop (length was - 1) all) ≡ more
tail_is before was all more x ends is =
    let n : length was - 1 ≡ length before = omega (arith, ap (λ (l : List Event). length l) ends, length-append before (x ∷ [])) in
    let rest : drop (length was - 1) all ≡ more = ap (λ (k : ℕ). drop k all) n ∙ ap (λ (l : List Event). drop (length before) l) is ∙ drop-append_seam before more in
    let long : length more ≤ length all - (length was - 1) = omega (arith, ap (λ (l : List Event). length l) is, length-append before more, n) in
    ap (λ (l : List Event). take (length all - (length was - 1)) l) rest ∙ take_all (length all - (length was - 1)) more long

module _ (old new : Core) (one : Emitted) (d : Done) (body : Option Body) (end : End) (now : ℕ) (e : Event) (last : IsLast old one) (is : end ≡ end_with d.ending body) (ended : IsEnded old new one end now e) where
  -- its finish
  abbrev own : Finishing
  own = finish_with old one d body now (adds_of e)

  -- the event is the finish by this end
  event_is : e ≡ finish_event own
  event_is = ended.event ∙ ap (λ (x : End). finish_event (finish_by old one x now (adds_of e))) is

  -- the events end in its emit and its finish
  two_last : new.events ≡ last.before ++ (emit_event one ∷ finish_event own ∷ [])
  two_last =
      ended.events ∙ ap (λ (l : List Event). l ++ e ∷ []) last.last ∙ append_assoc last.before (emit_event one ∷ []) (e ∷ [])
      ∙ ap (λ (x : Event). last.before ++ (emit_event one ∷ x ∷ [])) event_is

  -- the last two events are the emit and the finish
  pub turn_is : (was all : List Event) → was ≡ old.events → all ≡ new.events
      → take (length all - (length was - 1)) (drop (length was - 1) all) ≡ emit_event one ∷ finish_event own ∷ []
  turn_is was all before after = tail_is last.before was all (emit_event one ∷ finish_event own ∷ []) (emit_event one) (before ∙ last.last) (after ∙ two_last)

  -- and can stand in one block
  pub turn_fits : (events : List Event) (links : List Found) → events ≡ emit_event one ∷ finish_event own ∷ [] → IsEvent e → length (adds_of e) ≤ length links + 1 → length links ≤ most_links → IsTurn events
  turn_fits events links are valid few within = record {
    one = one;
    c = own;
    are = are;
    emit = last.emit;
    finish = subst IsEvent event_is valid;
    few = omega (arith, few, within);
  }

  -- so it came to its end, and this is to be written of it
  pub settles : (links : List Found) (payload : List ℕ) (p : Prepared) → links ≡ d.links → payload ≡ payload_of d.reply
      → ((pages : Pages) (a : Archive) → Shows (facts old pages) a (finish_by old one end now (adds_of e)) links payload → IsFinished pages a old new one (finish_by old one end now (adds_of e)))
      → IsEvent e → (events : List Event) → events ≡ emit_event one ∷ finish_event own ∷ [] → IsSpelled events p.frame → p.line.items ≡ log_line e
      → Settles old new one d body p.place p.record.items now p
  settles links payload p links_are payload_is finished valid events are frame line = record {
    adds = adds_of e;
    ended = record {
      event = refl;
      events = ended.events ∙ ap (λ (x : Event). old.events ++ x ∷ []) event_is;
      settings = ended.settings;
      scope = ended.scope;
      fits = subst (λ (x : Event). Fits (history old) x) event_is ended.fits;
    };
    finished = λ pages a shows.
        subst (λ (x : End). IsFinished pages a old new one (finish_by old one x now (adds_of e))) is
        (finished pages a
        (subst (λ (x : End). Shows (facts old pages) a (finish_by old one x now (adds_of e)) links payload) (sym is)
        (subst (λ (l : List Found). Shows (facts old pages) a own l payload) (sym links_are)
        (subst (λ (t : List ℕ). Shows (facts old pages) a own d.links t) (sym payload_is) shows))));
    valid = subst IsEvent event_is valid;
    place_is = refl;
    record_is = refl;
    frame_is = subst (λ (es : List Event). IsSpelled es p.frame) are frame;
    line_is = line ∙ ap log_line event_is;
  }
