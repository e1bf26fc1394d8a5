-- A legal history is legal with a visit behind it.
use Rattle.std.proofs.Common.{◌≡◌, ℕ, ◌+◌, List, [], ◌∷◌, ◌++◌, refl, sym, ◌∙◌, ap, subst, arith, Option}
use Rattle.std.proofs.lemmas.List.{append_assoc}
use Rattle.crawl_kinds.specs.declared.settings.Settings.{Settings}
use Rattle.crawl_kinds.specs.declared.snapshot.Edge.{Edge}
use Rattle.crawl_traits.specs.declared.link.Link.{Ghosts as LinkGhosts}
use Rattle.crawl_history.specs.Citations.{cited_end}
use Rattle.crawl_history.specs.Counts.{try_number, vain_tries}
use Rattle.crawl_history.specs.Facts.{Archive, Facts}
use Rattle.crawl_history.specs.History.{History, with_event}
use Rattle.crawl_history.specs.Steps.{Legal}
use Rattle.history_steps.specs.ScansStep.{ScansStep}
use Rattle.history_steps.proofs.Legal.{legal_more}
use Rattle.core_facts.specs.CoreFacts.{Pages, facts_with}
use Rattle.crawl_facts.specs.Pages.{ArePages}
use Rattle.scope_spec.specs.Decision.{ScopeRules}
use Rattle.frontier_core.specs.Core.{Core, facts, history}
use Rattle.frontier_core.specs.Emitting.{emit_event}
use Rattle.frontier_core.specs.Finishing.{finish_event, IsFinished, MayEnd}
use Rattle.frontier_core.specs.Standing.{Stands}
use Rattle.frontier_core.specs.declared.emitted.Emitted.{Emitted}
use Rattle.process_chains.specs.Ends.{World, world}
use Rattle.visit_spec.specs.Crawled.{GoesOn}
use Rattle.visit_spec.specs.Recorded.{IsRecorded}
use Rattle.visit_spec.specs.Visits.{HoldsVisits, IsVisit, Visit, events, finish_of}
use Rattle.finish_laws.specs.Going.{IsByHistory, VisitGoesOn}
use Rattle.finish_laws.specs.Laws.{IsEndFor, ProcessedMayEnd}

-- ---- an emit records nothing, and is no try in vain

-- so the next record goes where it went
still_cited : ScansStep → (h : History) (one : Emitted) → cited_end (with_event h (emit_event one)) ≡ cited_end h
still_cited scans h one = scans.cited h (emit_event one)

-- and the next try of a key has the number that it had
still_tries : ScansStep → (h : History) (one : Emitted) (key : List ℕ) → try_number (with_event h (emit_event one)) key ≡ try_number h key
still_tries scans h one key =
    let same : vain_tries (with_event h (emit_event one)) key ≡ vain_tries h key + 0 = scans.tries h (emit_event one) key in
    omega (arith, same)

-- ---- the emit, and the finish

module _ (scans : ScansStep) (law : ProcessedMayEnd) (w : World) (old new : Core) (v : Visit) (is : IsVisit w old new v) (by : IsByHistory old is.out new v) where
  -- settings and scope stay
  same_settings : is.out.settings ≡ old.settings
  same_settings = ap (λ (c : Core). c.settings) is.emits.kept

  -- what was recorded stands behind the emit too
  recorded_out : IsRecorded (cited_end (history is.out)) v.done v.body v.bytes
  recorded_out =
      let cited : cited_end (history is.out) ≡ cited_end (history old) =
      ap (λ (c : Core). cited_end (history c)) is.emits.kept ∙ still_cited scans (history old) v.one in
      subst (λ (edge : Option Edge). IsRecorded edge v.done v.body v.bytes) (sym cited) is.recorded

  -- the finish ends what was handed out
  ended : IsEndFor is.out v.one v.done v.body (finish_of v)
  ended = record { done = is.done; settings = is.settings ∙ sym same_settings; work = is.work; item = refl; end = refl }

  module _ (pages : Pages) (a : Archive) (are : ArePages old.settings pages) (holds : HoldsVisits a (v ∷ [])) (stands : Stands pages a old)
      (legal : Legal (facts old pages) a old.events) where
    -- so the pages agree with the settings still
    are_out : ArePages is.out.settings pages
    are_out = subst (λ (s : Settings). ArePages s pages) (sym same_settings) are

    -- the finish is what the history says of one whose links and payload the pages show
    finished : IsFinished pages a is.out new v.one (finish_of v)
    finished = by.finished pages a (law.shows pages a is.out v.one v.done v.body v.bytes (finish_of v) are_out ended recorded_out holds.0)

    -- the work says which try it is, of the history with its emit too
    tries_out : v.one.work.tries ≡ try_number (history is.out) v.one.work.item.key
    tries_out =
        (by.step pages a stands).tries legal
        ∙ sym (ap (λ (c : Core). try_number (history c) v.one.work.item.key) is.emits.kept ∙ still_tries scans (history old) v.one v.one.work.item.key)

    -- and its end may stand behind the emit
    may_end : MayEnd pages a is.out v.one (finish_of v)
    may_end = law.may_end pages a is.out v.one v.done v.body v.bytes (finish_of v) are_out ended recorded_out holds.0 tries_out is.named

    -- with the emit the history is legal
    legal_out : Legal (facts is.out pages) a is.out.events
    legal_out =
        subst (λ (c : Core). Legal (facts c pages) a c.events) (sym is.emits.kept)
        (legal_more (facts old pages) a old.events (emit_event v.one) legal ((by.step pages a stands).step legal))

    -- and with the finish behind that
    legal_both : Legal (facts is.out pages) a (is.out.events ++ finish_event (finish_of v) ∷ [])
    legal_both = legal_more (facts is.out pages) a is.out.events (finish_event (finish_of v)) legal_out (finished.step legal_out may_end)

    -- facts hang on settings and scope alone
    same_facts : facts is.out pages ≡ facts new pages
    same_facts =
        sym (ap (λ (s : Settings). facts_with s (new.scope ∷ []) pages) is.ends.settings
        ∙ ap (λ (s : ScopeRules). facts_with is.out.settings (s ∷ []) pages) is.ends.scope)

    -- the events of one visit are its emit and its finish
    same_events : is.out.events ++ finish_event (finish_of v) ∷ [] ≡ old.events ++ events (v ∷ [])
    same_events =
        ap (λ (c : Core). c.events ++ finish_event (finish_of v) ∷ []) is.emits.kept
        ∙ append_assoc old.events (emit_event v.one ∷ []) (finish_event (finish_of v) ∷ [])

    -- what the core keeps still says the same, and the history is legal
    both : Stands pages a new × Legal (facts new pages) a (old.events ++ events (v ∷ []))
    both = (
      finished.stands (by.stands pages a stands),
      subst (λ (f : Facts). Legal f a (old.events ++ events (v ∷ []))) same_facts (subst (Legal (facts is.out pages) a) same_events legal_both),
    )

-- whatever work is processed under
goes_on : ScansStep → ProcessedMayEnd → (w : World) (old new : Core) (v : Visit) (is : IsVisit w old new v) → IsByHistory old is.out new v → GoesOn old new (v ∷ [])
goes_on scans law w old new v is by = λ pages a are holds stands legal. both scans law w old new v is by pages a are holds stands legal

-- so under what a link and a clock make of the world
pub visit_goes_on : {C L : Type 0} (link : LinkGhosts L) (gives : C → ℕ → Type 0) → ScansStep → ProcessedMayEnd → VisitGoesOn link gives
visit_goes_on link gives scans law =
    λ clock settings start now old new v is by. goes_on scans law (world link (gives clock) settings start now) old new v is by
