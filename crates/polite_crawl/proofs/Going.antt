-- What a crawl has kept after so many turns, and after one more.
use Rattle.std.proofs.Common.{◌≡◌, ◌≤◌, ℕ, Bool, List, [], ◌∷◌, ◌++◌, length, refl, sym, ◌∙◌, subst, arith, append-nil}
use Rattle.std.specs.Prelude.{IsTrue}
use Rattle.std.proofs.lemmas.List.{take_all}
use Rattle.crawl_kinds.specs.declared.event.Event.{Event}
use Rattle.crawl_kinds.specs.declared.settings.Settings.{Settings}
use Rattle.crawl_traits.specs.declared.link.Exchange.{Exchange}
use Rattle.crawl_traits.specs.declared.link.Link.{Ghosts as LinkGhosts}
use Rattle.crawl_traits.specs.declared.volume.Volume.{Ghosts}
use Rattle.frontier_core.specs.Core.{Core}
use Rattle.process_chains.specs.Ends.{World, world}
use Rattle.recover_journal.specs.Rest.{Rests}
use Rattle.recover_journal.specs.declared.journal.Journal.{Journal}
use Rattle.visit_laws.specs.Laws.{IsOnward, Stretch, VisitLaws}
use Rattle.visit_spec.specs.Crawled.{IsRefused, Keeps, next_place, warc_file}
use Rattle.visit_spec.specs.Visits.{Visit, events}

-- What a crawl is begun on: volume and output tell, the WARC file has the last cited record, and the journal holds these
-- events.
pub record Begun {V : Type 0} (of : Ghosts V) (core : Core) (journal : Journal) (volume : V) (shows : Bool) (held : List Event) : Type 0 where
  pub tells : IsTrue (of.tells volume)
  pub shown : IsTrue shows
  pub within : (next_place core).end ≤ length (of.contents volume (warc_file (next_place core)))
  pub rests : Rests of journal volume held

-- some visits were kept since then
abbrev pub KeepsSome : {V : Type 0} → Ghosts V → World → Core → Core → List Event → Journal → V → V → List ℕ → List ℕ → List Exchange → List Exchange → Type 0
KeepsSome of w old new held journal volume left written shown went gone =
    (visits : List Visit) × Keeps of w old new held journal volume left written shown went gone visits []

-- from one state of a link to a later one, and from that to one later still
pub onward : {L : Type 0} (link : LinkGhosts L) (start middle now : L) → IsOnward link start middle → IsOnward link middle now → IsOnward link start now
onward link start middle now first second = record {
  later = λ fault. omega (arith, first.later fault, second.later fault);
  tells = second.tells ∙ first.tells;
  shut = λ told none. second.shut (first.tells ∙ told) (first.shut told none);
}

module _ {V C L : Type 0} (of : Ghosts V) (link : LinkGhosts L) (gives : C → ℕ → Type 0) (laws : VisitLaws of link gives) (clock : C) (settings : Settings) (start middle : L)
    (old mid : Core) (held : List Event) (between : Journal) (volume left : V) (written printed : List ℕ)
    (within : (next_place old).end ≤ length (of.contents volume (warc_file (next_place old)))) where
  -- that much was kept up to the middle
  abbrev pub SoFar : List Visit → Type 0
  SoFar visits =
      Keeps of (world link (gives clock) settings start middle) old mid held between volume left written printed (link.exchanges start) (link.exchanges middle) visits []

  -- the time to the middle
  abbrev to_middle : Stretch C L
  to_middle = record { clock = clock; settings = settings; start = start; now = middle }

  -- the WARC file ends where the next record goes
  file_ends : (visits : List Visit) → SoFar visits → length (of.contents left (warc_file (next_place mid))) ≡ (next_place mid).end
  file_ends visits so_far =
      laws.ends to_middle old mid held between volume left written printed (link.exchanges start) (link.exchanges middle) visits [] within so_far

  module _ (now : L) (earlier : IsOnward link start middle) (later : IsOnward link middle now) where
    -- the time from there on, and both
    abbrev from_middle : Stretch C L
    from_middle = record { clock = clock; settings = settings; start = middle; now = now }

    abbrev to_now : Stretch C L
    to_now = record { clock = clock; settings = settings; start = start; now = now }

    -- what was kept behind that is kept with it
    behind : (new : Core) (after : Journal) (last : V) (shown : List ℕ) (visits more : List Visit) (seen : List Exchange) → SoFar visits
        → Keeps of (world link (gives clock) settings middle now) mid new (held ++ events visits) after left last printed shown (link.exchanges middle) (link.exchanges now) more seen
        → Keeps of (world link (gives clock) settings start now) old new held after volume last written shown (link.exchanges start) (link.exchanges now) (visits ++ more) seen
    behind new after last shown visits more seen so_far next =
        let parts = laws.within clock settings settings start middle now refl earlier later in
        laws.behind to_middle from_middle to_now old mid new held between after volume left last written printed shown
        (link.exchanges start) (link.exchanges middle) (link.exchanges now) visits more seen parts.0 parts.1 within so_far next

    -- visits and then one more
    pub keeps_more : (new : Core) (after : Journal) (last : V) (shown : List ℕ) → (visits : List Visit) × SoFar visits
        → ((rested : List Event) → length (of.contents left (warc_file (next_place mid))) ≡ (next_place mid).end → Rests of between left rested
        → (v : Visit) × Keeps of (world link (gives clock) settings middle now) mid new rested after left last printed shown (link.exchanges middle) (link.exchanges now) (v ∷ []) [])
        → KeepsSome of (world link (gives clock) settings start now) old new held after volume last written shown (link.exchanges start) (link.exchanges now)
    keeps_more new after last shown some turn =
        let visits = some.0 in
        let so_far = some.1 in
        let one = turn (held ++ events visits) (file_ends visits so_far) so_far.rests in
        (visits ++ one.0 ∷ [], behind new after last shown visits (one.0 ∷ []) [] so_far one.1)

    -- visits, and then an item that was refused, of which nothing is kept
    pub keeps_refused : (known adds : ℕ) (seen : List Exchange) → (visits : List Visit) × SoFar visits
        → IsRefused (world link (gives clock) settings middle now) mid known adds seen → (IsTrue (link.tells middle) → link.exchanges now ≡ link.exchanges middle ++ seen)
        → (visits : List Visit) × (core : Core) × (seen : List Exchange)
        × Keeps of (world link (gives clock) settings start now) old core held between volume left written printed (link.exchanges start) (link.exchanges now) visits seen
        × IsRefused (world link (gives clock) settings start now) core known adds seen
    keeps_refused known adds seen some refused over_link =
        let visits = some.0 in
        let so_far = some.1 in
        let ends : length (of.contents left (warc_file (next_place mid))) ≡ (next_place mid).end = file_ends visits so_far in
        let none : Keeps of (world link (gives clock) settings middle now) mid mid (held ++ events visits) between left left printed printed (link.exchanges middle) (link.exchanges now) [] seen =
        laws.none from_middle mid (held ++ events visits) between left left printed (link.exchanges middle) (link.exchanges now) seen so_far.rests
        (sym (take_all (next_place mid).end (of.contents left (warc_file (next_place mid))) (omega (arith, ends)))) (λ f other third. refl) over_link in
        let parts = laws.within clock settings settings start middle now refl earlier later in (
          visits,
          mid,
          seen,
          subst (λ (vs : List Visit). Keeps of (world link (gives clock) settings start now) old mid held between volume left written printed (link.exchanges start) (link.exchanges now) vs seen)
              (append-nil visits) (behind mid between left printed visits [] seen so_far none),
          laws.refused from_middle to_now mid known adds seen parts.1 refused,
        )
