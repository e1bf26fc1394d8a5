-- Where the WARC file ends behind visits, and that no visits are kept from the start.
use Rattle.std.proofs.Common.{◌≡◌, ℕ, ◌+◌, ◌≤◌, List, [], ◌++◌, length, take, refl, sym, ◌∙◌, ap, subst, length-append}
use Rattle.std.specs.Prelude.{IsTrue}
use Rattle.std.proofs.lemmas.List.{append-nil, length-take-le}
use Rattle.crawl_kinds.specs.declared.event.Event.{Event}
use Rattle.crawl_kinds.specs.declared.snapshot.Edge.{Edge}
use Rattle.crawl_traits.specs.declared.link.Exchange.{Exchange}
use Rattle.crawl_traits.specs.declared.volume.Volume.{Ghosts}
use Rattle.crawl_history.specs.Steps.{Legal}
use Rattle.frontier_core.specs.Core.{Core, facts}
use Rattle.history_steps.specs.ScansStep.{ScansStep}
use Rattle.process_chains.specs.Ends.{World}
use Rattle.recover_journal.specs.Rest.{Rests}
use Rattle.recover_journal.specs.declared.journal.Journal.{Journal}
use Rattle.visit_spec.specs.Crawled.{Keeps, Others, next_place, warc_file}
use Rattle.visit_spec.specs.Visits.{Visit, warc}
use Rattle.visit_laws.proofs.Placing.{place-visits}

-- a front that was cut off, and records behind it
cut-length : (n : ℕ) (front records file : List ℕ) → n ≤ length front → file ≡ take n front ++ records → length file ≡ n + length records
cut-length n front records file within is =
    ap length is ∙ length-append (take n front) records ∙ ap (λ k. k + length records) (length-take-le n front within)

-- the file ends where the next record goes
pub keeps-ends :
    {V : Type 0} (of : Ghosts V) (scans : ScansStep) (w : World) (old new : Core) (held : List Event) (journal : Journal) (volume left : V)
    (written shown : List ℕ) (went gone : List Exchange) (visits : List Visit) (seen : List Exchange)
    → (next_place old).end ≤ length (of.contents volume (warc_file (next_place old)))
    → Keeps of w old new held journal volume left written shown went gone visits seen
    → length (of.contents left (warc_file (next_place new))) ≡ (next_place new).end
keeps-ends of scans w old new held journal volume left written shown went gone visits seen within kept =
    let place = next_place old in
    subst (λ (p : Edge). length (of.contents left (warc_file p)) ≡ p.end) (sym (place-visits scans w old new visits kept.are))
    (cut-length place.end (of.contents volume (warc_file place)) (warc visits) (of.contents left (warc_file place)) within kept.records)

-- nothing was made yet
pub keeps-none :
    {V : Type 0} (of : Ghosts V) (w : World) (core : Core) (held : List Event) (journal : Journal) (volume left : V)
    (written : List ℕ) (went gone seen : List Exchange)
    → Rests of journal left held
    → of.contents left (warc_file (next_place core)) ≡ take (next_place core).end (of.contents volume (warc_file (next_place core)))
    → Others (warc_file (next_place core)) (of.contents volume) (of.contents left)
    → (IsTrue w.tells → gone ≡ went ++ seen)
    → Keeps of w core core held journal volume left written written went gone [] seen
keeps-none of w core held journal volume left written went gone seen rests cut others over_link =
    record {
      are = refl;
      core = sym (append-nil core.events);
      goes_on = λ pages a are holds stands legal. (stands, subst (λ (es : List Event). Legal (facts core pages) a es) (sym (append-nil core.events)) legal);
      rests = subst (λ (es : List Event). Rests of journal left es) (sym (append-nil held)) rests;
      records = cut ∙ sym (append-nil (take (next_place core).end (of.contents volume (warc_file (next_place core)))));
      others = others;
      lines = sym (append-nil written);
      over_link = over_link;
    }
