-- Where the next record goes behind visits.
use Rattle.std.proofs.Common.{◌≡◌, ℕ, ◌+◌, List, [], ◌∷◌, ◌++◌, length, refl, ◌∙◌, ap, arith, length-append, Option, Some, None}
use Rattle.crawl_kinds.specs.declared.event.Body.{Body}
use Rattle.crawl_kinds.specs.declared.event.Event.{Event}
use Rattle.crawl_kinds.specs.declared.snapshot.Edge.{Edge}
use Rattle.crawl_history.specs.Citations.{cited_end, edge_after, edge_or}
use Rattle.crawl_history.specs.History.{history_of}
use Rattle.crawl_facts.specs.Pages.{place_after}
use Rattle.frontier_core.specs.Core.{Core, history}
use Rattle.frontier_core.specs.Emitting.{emit_event}
use Rattle.frontier_core.specs.Finishing.{finish_event}
use Rattle.history_steps.specs.ScansStep.{ScansStep}
use Rattle.http_message.specs.declared.front.Reply.{Reply}
use Rattle.process_chains.specs.Done.{Done}
use Rattle.process_chains.specs.Ends.{World}
use Rattle.visit_spec.specs.Crawled.{next_place}
use Rattle.visit_spec.specs.Recorded.{IsRecordedAs}
use Rattle.visit_spec.specs.Visits.{AreVisits, IsVisit, Visit, finish_of, warc}

-- a place in the same file
abbrev at : Edge → ℕ → Edge
at place end = record { file = place.file; end = end }

-- the place behind records that stand at a place
abbrev pub behind : Edge → List ℕ → Edge
behind place bytes = at place (place.end + length bytes)

-- behind no bytes the place stays
behind-none : (place : Edge) (bytes : List ℕ) → bytes ≡ [] → place ≡ behind place bytes
behind-none place bytes none =
    let empty : length bytes ≡ 0 = ap length none in
    let same : place.end ≡ place.end + length bytes = omega arith in
    ap (at place) same

-- records behind records
behind-append : (place : Edge) (xs ys : List ℕ) → behind (behind place xs) ys ≡ behind place (xs ++ ys)
behind-append place xs ys =
    let both : length (xs ++ ys) ≡ length xs + length ys = length-append xs ys in
    let same : (place.end + length xs) + length ys ≡ place.end + length (xs ++ ys) = omega arith in
    ap (at place) same

-- what is recorded stands at the place, and the next place is behind it
recorded-behind :
    (edge : Option Edge) (d : Done) (reply : Option Reply) (body : Option Body) (bytes : List ℕ) → IsRecordedAs (place_after edge) d reply body bytes
    → place_after (edge_or (edge_after body) edge) ≡ behind (place_after edge) bytes
recorded-behind edge d None None bytes none = behind-none (place_after edge) bytes none
recorded-behind edge d None (Some body) bytes is = absurd is
recorded-behind edge d (Some reply) None bytes is = absurd is
recorded-behind edge d (Some reply) (Some body) bytes is = ap (λ (b : Body). place_after (edge_after (Some b))) is.body_is

-- the end of a visit cites its body, and its emit cites nothing
cited-visit : ScansStep → (w : World) (old new : Core) (v : Visit) → IsVisit w old new v → cited_end (history new) ≡ edge_or (edge_after v.body) (cited_end (history old))
cited-visit scans w old new v is =
    ap (λ (events : List Event). cited_end (history_of events)) is.ends.events
    ∙ scans.cited (history is.out) (finish_event (finish_of v))
    ∙ ap (λ (core : Core). edge_or (edge_after v.body) (cited_end (history core))) is.emits.kept
    ∙ ap (edge_or (edge_after v.body)) (scans.cited (history old) (emit_event v.one))

-- the next record goes behind that of a visit
place-visit : ScansStep → (w : World) (old new : Core) (v : Visit) → IsVisit w old new v → next_place new ≡ behind (next_place old) v.bytes
place-visit scans w old new v is =
    ap place_after (cited-visit scans w old new v is) ∙ recorded-behind (cited_end (history old)) v.done v.done.reply v.body v.bytes is.recorded

-- and behind those of visits
pub place-visits :
    ScansStep → (w : World) (old new : Core) (visits : List Visit) → AreVisits w old new visits
    → next_place new ≡ behind (next_place old) (warc visits)
place-visits scans w old new [] same = ap next_place same ∙ behind-none (next_place old) [] refl
place-visits scans w old new (v ∷ visits) are =
    place-visits scans w are.0 new visits are.2
    ∙ ap (λ (place : Edge). behind place (warc visits)) (place-visit scans w old are.0 v are.1)
    ∙ behind-append (next_place old) v.bytes (warc visits)
