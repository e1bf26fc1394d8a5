-- What is kept of visits behind what is kept of visits.
use Rattle.std.proofs.Common.{◌≡◌, ℕ, ◌+◌, ◌≤◌, List, [], ◌∷◌, ◌++◌, length, take, refl, sym, ◌∙◌, ap, subst, arith, append_assoc, length-append}
use Rattle.std.specs.Prelude.{flat_map, IsTrue}
use Rattle.std.proofs.lemmas.Grind.{flat_map-append}
use Rattle.std.proofs.lemmas.List.{append-nil, length-take-le, take_all}
use Rattle.crawl_kinds.specs.declared.event.Event.{Event}
use Rattle.crawl_kinds.specs.declared.settings.Settings.{Settings}
use Rattle.crawl_kinds.specs.declared.snapshot.Edge.{Edge}
use Rattle.crawl_traits.specs.Images.{Image}
use Rattle.crawl_traits.specs.declared.link.Exchange.{Exchange}
use Rattle.crawl_traits.specs.declared.volume.Volume.{Ghosts}
use Rattle.crawl_history.specs.Facts.{Archive}
use Rattle.crawl_history.specs.Steps.{Legal}
use Rattle.crawl_facts.specs.Pages.{ArePages}
use Rattle.frontier_core.specs.Core.{Core, facts}
use Rattle.history_steps.specs.ScansStep.{ScansStep}
use Rattle.process_chains.specs.Ends.{World}
use Rattle.recover_journal.specs.Rest.{Rests}
use Rattle.recover_journal.specs.declared.journal.Journal.{Journal}
use Rattle.visit_spec.specs.Crawled.{GoesOn, Keeps, Others, next_place, warc_file}
use Rattle.visit_spec.specs.Lines.{line_of}
use Rattle.visit_spec.specs.Visits.{HoldsVisits, Visit, events, events_of, warc}
use Rattle.visit_laws.specs.Laws.{IsWithin}
use Rattle.visit_laws.proofs.Carrying.{carry_visits, visits-append, visits-settings}
use Rattle.visit_laws.proofs.Placing.{behind, place-visits}

-- what grew by the one and then by the other grew by both
grown :
    {X A : Type 0} (f : X → List A) (xs ys : List X) (front middle whole : List A) → middle ≡ front ++ flat_map f xs → whole ≡ middle ++ flat_map f ys
    → whole ≡ front ++ flat_map f (xs ++ ys)
grown f xs ys front middle whole first second =
    second ∙ ap (λ zs. zs ++ flat_map f ys) first ∙ append_assoc front (flat_map f xs) (flat_map f ys) ∙ ap (λ zs. front ++ zs) (sym (flat_map-append f xs ys))

-- and what came last stays the last
grown-last :
    {X A : Type 0} (f : X → List A) (xs ys : List X) (front middle whole last : List A) → middle ≡ front ++ (flat_map f xs ++ [])
    → whole ≡ middle ++ (flat_map f ys ++ last) → whole ≡ front ++ (flat_map f (xs ++ ys) ++ last)
grown-last f xs ys front middle whole last first second =
    second
    ∙ sym (append_assoc middle (flat_map f ys) last)
    ∙ ap (λ zs. zs ++ last) (grown f xs ys front middle (middle ++ flat_map f ys) (first ∙ ap (λ zs. front ++ zs) (append-nil (flat_map f xs))) refl)
    ∙ append_assoc front (flat_map f (xs ++ ys)) last

-- the archive holds both where it holds them all
holds-first : (a : Archive) (visits more : List Visit) → HoldsVisits a (visits ++ more) → HoldsVisits a visits
holds-first a [] more holds = tt
holds-first a (v ∷ visits) more holds = (holds.0, holds-first a visits more holds.1)

holds-second : (a : Archive) (visits more : List Visit) → HoldsVisits a (visits ++ more) → HoldsVisits a more
holds-second a [] more holds = holds
holds-second a (v ∷ visits) more holds = holds-second a visits more holds.1

-- a legal history goes on with the one, and then with the other
goes_on-behind :
    (old mid new : Core) (visits more : List Visit) → mid.settings ≡ old.settings → mid.events ≡ old.events ++ events visits
    → GoesOn old mid visits → GoesOn mid new more → GoesOn old new (visits ++ more)
goes_on-behind old mid new visits more settings events_are first second pages a are holds stands legal =
    let there = first pages a are (holds-first a visits more holds) stands legal in
    let pages_are = subst (λ (s : Settings). ArePages s pages) (sym settings) are in
    let so_far = subst (λ (es : List Event). Legal (facts mid pages) a es) (sym events_are) there.1 in
    let on = second pages a pages_are (holds-second a visits more holds) there.0 so_far in (
      on.0,
      subst (λ (es : List Event). Legal (facts new pages) a es) (grown events_of visits more old.events mid.events (mid.events ++ events more) events_are refl) on.1,
    )

-- what is taken of a front and of all behind it is the whole
take-behind : (n : ℕ) (front records : List ℕ) → n ≤ length front → take (n + length records) (take n front ++ records) ≡ take n front ++ records
take-behind n front records within =
    let own : length (take n front) ≡ n = length-take-le n front within in
    let both : length (take n front ++ records) ≡ length (take n front) + length records = length-append (take n front) records in
    take_all (n + length records) (take n front ++ records) (omega arith)

-- the records of the second stand behind those of the first
records-behind :
    (before middle after : Image) (place next : Edge) (visits more : List Visit) → next ≡ behind place (warc visits)
    → place.end ≤ length (before (warc_file place))
    → middle (warc_file place) ≡ take place.end (before (warc_file place)) ++ warc visits
    → after (warc_file next) ≡ take next.end (middle (warc_file next)) ++ warc more
    → after (warc_file place) ≡ take place.end (before (warc_file place)) ++ warc (visits ++ more)
records-behind before middle after place next visits more next_is within first second =
    let here : after (warc_file place) ≡ take (place.end + length (warc visits)) (middle (warc_file place)) ++ warc more
    = subst (λ (p : Edge). after (warc_file p) ≡ take p.end (middle (warc_file p)) ++ warc more) next_is second
    in
    let cut : take (place.end + length (warc visits)) (middle (warc_file place)) ≡ middle (warc_file place)
    = ap (λ (zs : List ℕ). take (place.end + length (warc visits)) zs) first ∙ take-behind place.end (before (warc_file place)) (warc visits) within ∙ sym first
    in
    grown (λ v. v.bytes) visits more (take place.end (before (warc_file place))) (middle (warc_file place)) (after (warc_file place)) first
    (here ∙ ap (λ (zs : List ℕ). zs ++ warc more) cut)

-- the other files are those of before
others-behind :
    (before middle after : Image) (place next : Edge) (visits : List Visit) → next ≡ behind place (warc visits)
    → Others (warc_file place) before middle → Others (warc_file next) middle after → Others (warc_file place) before after
others-behind before middle after place next visits next_is first second f journal warc_is =
    let here = subst (λ (p : Edge). Others (warc_file p) middle after) next_is second in
    here f journal warc_is ∙ first f journal warc_is

-- all of it together
pub keeps-behind :
    {V : Type 0} (of : Ghosts V) (scans : ScansStep) (part rest whole : World) (old mid new : Core) (held : List Event) (between after : Journal) (volume middle left : V)
    (written printed shown : List ℕ) (went gone all : List Exchange) (visits more : List Visit) (seen : List Exchange)
    → IsWithin part whole → IsWithin rest whole
    → (next_place old).end ≤ length (of.contents volume (warc_file (next_place old)))
    → Keeps of part old mid held between volume middle written printed went gone visits []
    → Keeps of rest mid new (held ++ events visits) after middle left printed shown gone all more seen
    → Keeps of whole old new held after volume left written shown went all (visits ++ more) seen
keeps-behind of scans part rest whole old mid new held between after volume middle left written printed shown went gone all visits more seen inner outer within first second =
    let next_is = place-visits scans part old mid visits first.are in
    record {
      are = visits-append whole old mid new visits more (carry_visits part whole inner old mid visits first.are) (carry_visits rest whole outer mid new more second.are);
      core = grown events_of visits more old.events mid.events new.events first.core second.core;
      goes_on = goes_on-behind old mid new visits more (visits-settings part old mid visits first.are) first.core first.goes_on second.goes_on;
      rests = subst (λ (es : List Event). Rests of after left es) (grown events_of visits more held (held ++ events visits) ((held ++ events visits) ++ events more) refl refl) second.rests;
      records = records-behind (of.contents volume) (of.contents middle) (of.contents left) (next_place old) (next_place mid) visits more next_is within first.records second.records;
      others = others-behind (of.contents volume) (of.contents middle) (of.contents left) (next_place old) (next_place mid) visits next_is first.others second.others;
      lines = grown (λ v. line_of v.done.ending.outcome v.done.ending.code v.one.work.item.uri) visits more written printed shown first.lines second.lines;
      over_link =
          λ tells.
          grown-last (λ v. v.seen) visits more went gone all seen
          (first.over_link (subst IsTrue (sym inner.tells) tells)) (second.over_link (subst IsTrue (sym outer.tells) tells));
    }
