-- What holds of a crawl between its turns.
use Rattle.std.proofs.Common.{◌≡◌, ◌≤◌, ℕ, List, [], ◌∷◌, ◌++◌, length, take, Result, Ok, refl, sym, ◌∙◌, ap, subst, arith, append_assoc, append-nil}
use Rattle.std.specs.Prelude.{◌≢◌, IsTrue}
use Rattle.std.specs.List.{AllByRecursion}
use Rattle.crawl_kinds.specs.declared.event.Event.{Event}
use Rattle.crawl_kinds.specs.declared.settings.Settings.{Settings}
use Rattle.crawl_kinds.specs.declared.snapshot.Edge.{Edge}
use Rattle.crawl_traits.specs.declared.file.FileId.{FileId}
use Rattle.crawl_traits.specs.declared.link.Exchange.{Exchange}
use Rattle.crawl_traits.specs.declared.link.Link.{Ghosts as LinkGhosts}
use Rattle.crawl_traits.specs.declared.stream.Sink.{Ghosts as SinkGhosts}
use Rattle.crawl_traits.specs.declared.volume.Volume.{Ghosts}
use Rattle.frontier_core.specs.Core.{Core}
use Rattle.journal_valid.specs.Valid.{IsEvent}
use Rattle.open_crawl.specs.declared.opening.OpenCrawl.{OpenCrawl}
use Rattle.process_chains.specs.Ends.{world}
use Rattle.recover_journal.specs.Rest.{Rests}
use Rattle.recover_journal.specs.declared.journal.Journal.{Journal}
use Rattle.visit_laws.specs.Laws.{IsOnward, VisitLaws}
use Rattle.visit_spec.specs.Crawled.{IsRefused, Keeps, next_place, warc_file}
use Rattle.visit_spec.specs.Visits.{Visit}
use Rattle.polite_crawl.specs.Turns.{IsIdle}
use Rattle.polite_crawl.specs.declared.turn.Turn.{Turn}
use Rattle.polite_crawl.specs.declared.turn.Turn.TheVariants as turned
use Rattle.polite_crawl.specs.declared.why.Why.{Why}
use Rattle.polite_crawl.proofs.Going.{Begun, keeps_more, keeps_refused, KeepsSome, onward}

module _ {V W C L : Type 0} (of : Ghosts V) (sink : SinkGhosts W) (link : LinkGhosts L) (gives : C → ℕ → Type 0) (clock : C) (begun : OpenCrawl) (volume : V) (out : W) (start : L) where
  -- between two turns: what was kept so far, and what stayed
  pub record Going (crawl : OpenCrawl) (left : V) (shown : W) (now : L) : Type 0 where
    pub keeps :
        (held : List Event) → Begun of begun.frontier begun.journal volume (sink.tells out) held
        → KeepsSome of (world link (gives clock) begun.frontier.settings start now) begun.frontier crawl.frontier held crawl.journal volume left (sink.written out) (sink.written shown)
        (link.exchanges start) (link.exchanges now)
    pub valid : AllByRecursion IsEvent crawl.frontier.events
    pub settings : crawl.frontier.settings ≡ begun.frontier.settings
    pub grown : IsTrue (sink.tells out) → (lines : List ℕ) × (sink.written shown ≡ sink.written out ++ lines)
    pub volume_tells : of.tells left ≡ of.tells volume
    pub sink_tells : sink.tells shown ≡ sink.tells out
    pub link_onward : IsOnward link start now
    pub volume_later : of.faults volume ≤ of.faults left
    pub sink_later : sink.faults out ≤ sink.faults shown

  -- before the first turn the WARC file is cut behind the last cited record
  pub going_first : VisitLaws of link gives → (left : V) (place : Edge) → AllByRecursion IsEvent begun.frontier.events → place ≡ next_place begun.frontier
      → (IsTrue (of.tells volume) → place.end ≤ length (of.contents volume (warc_file place)) → of.contents left (warc_file place) ≡ take place.end (of.contents volume (warc_file place)))
      → (IsTrue (of.tells volume) → (f : FileId) → f ≢ warc_file place → of.contents left f ≡ of.contents volume f)
      → ((journal : Journal) (events : List Event) → Rests of journal volume events → Rests of journal left events)
      → of.tells left ≡ of.tells volume → of.faults volume ≤ of.faults left
      → Going begun left out start
  going_first laws left place valid at cut others rests tells later = record {
    keeps = λ held was. (
      [],
      laws.none (record { clock = clock; settings = begun.frontier.settings; start = start; now = start }) begun.frontier held begun.journal volume left (sink.written out) (link.exchanges start) (link.exchanges start) []
          (rests begun.journal held was.rests)
          (subst (λ (e : Edge). IsTrue (of.tells volume) → e.end ≤ length (of.contents volume (warc_file e)) → of.contents left (warc_file e) ≡ take e.end (of.contents volume (warc_file e))) at cut was.tells was.within)
          (λ f other third. subst (λ (e : Edge). (f : FileId) → f ≢ warc_file e → of.contents left f ≡ of.contents volume f) at (others was.tells) f third)
          (λ told. sym (append-nil (link.exchanges start))),
    );
    valid = valid;
    settings = refl;
    grown = λ told. ([], sym (append-nil (sink.written out)));
    volume_tells = tells;
    sink_tells = refl;
    link_onward = record { later = λ fault. omega arith; tells = refl; shut = λ told none. none };
    volume_later = later;
    sink_later = omega arith;
  }

  module _ (crawl : OpenCrawl) (left : V) (shown : W) (now : L) (so_far : Going crawl left shown now) where
    -- a turn in which nothing goes leaves all as it is
    pub going_same : (crawl' : OpenCrawl) (left' : V) (shown' : W) (now' : L) → (crawl' ≡ crawl) × (left' ≡ left) × (shown' ≡ shown) × (now' ≡ now) → Going crawl' left' shown' now'
    going_same crawl' left' shown' now' same =
        subst (λ (x : OpenCrawl). Going x left' shown' now') (sym same.0)
        (subst (λ (x : V). Going crawl x shown' now') (sym same.1)
        (subst (λ (x : W). Going crawl left x now') (sym same.2) (subst (λ (x : L). Going crawl left shown x) (sym same.3) so_far)))

    -- what the output gained so far and then
    pub grown_more : (shown' : W) → (IsTrue (sink.tells shown) → (lines : List ℕ) × (sink.written shown' ≡ sink.written shown ++ lines))
        → IsTrue (sink.tells out) → (lines : List ℕ) × (sink.written shown' ≡ sink.written out ++ lines)
    grown_more shown' more told =
        let before = so_far.grown told in
        let after = more (so_far.sink_tells ∙ told) in
        (before.0 ++ after.0, after.1 ∙ ap (λ (l : List ℕ). l ++ after.0) before.1 ∙ append_assoc (sink.written out) before.0 after.0)

    module _ (laws : VisitLaws of link gives) (now' : L) (next : IsOnward link now now') where
      -- a turn in which an item was handed out and recorded
      going_more : (crawl' : OpenCrawl) (left' : V) (shown' : W)
          → (IsTrue (of.tells left) → IsTrue (sink.tells shown) → length (of.contents left (warc_file (next_place crawl.frontier))) ≡ (next_place crawl.frontier).end
          → (held : List Event) → Rests of crawl.journal left held
          → (v : Visit) × Keeps of (world link (gives clock) crawl.frontier.settings now now') crawl.frontier crawl'.frontier held crawl'.journal left left' (sink.written shown) (sink.written shown')
          (link.exchanges now) (link.exchanges now') (v ∷ []) [])
          → AllByRecursion IsEvent crawl'.frontier.events → crawl'.frontier.settings ≡ crawl.frontier.settings
          → (IsTrue (sink.tells shown) → (lines : List ℕ) × (sink.written shown' ≡ sink.written shown ++ lines))
          → of.tells left' ≡ of.tells left → sink.tells shown' ≡ sink.tells shown → of.faults left ≤ of.faults left' → sink.faults shown ≤ sink.faults shown'
          → Going crawl' left' shown' now'
      going_more crawl' left' shown' worked valid settings grown volume_tells sink_tells volume_later sink_later = record {
        keeps = λ held was.
            keeps_more of link gives laws clock begun.frontier.settings start now begun.frontier crawl.frontier held crawl.journal volume left (sink.written out) (sink.written shown) was.within
            now' so_far.link_onward next crawl'.frontier crawl'.journal left' (sink.written shown') (so_far.keeps held was)
            (λ rested long rests.
            subst (λ (s : Settings). (v : Visit) × Keeps of (world link (gives clock) s now now') crawl.frontier crawl'.frontier rested crawl'.journal left left' (sink.written shown) (sink.written shown')
            (link.exchanges now) (link.exchanges now') (v ∷ []) []) so_far.settings
            (worked (so_far.volume_tells ∙ was.tells) (so_far.sink_tells ∙ was.shown) long rested rests));
        valid = valid;
        settings = settings ∙ so_far.settings;
        grown = grown_more shown' grown;
        volume_tells = volume_tells ∙ so_far.volume_tells;
        sink_tells = sink_tells ∙ so_far.sink_tells;
        link_onward = onward link start now now' so_far.link_onward next;
        volume_later = omega (arith, so_far.volume_later, volume_later);
        sink_later = omega (arith, so_far.sink_later, sink_later);
      }

      -- a turn in which an item was refused
      pub going_refused : (crawl' : OpenCrawl) (left' : V) (shown' : W) (known adds : ℕ) (held : List Event) → Begun of begun.frontier begun.journal volume (sink.tells out) held
          → (crawl'.journal ≡ crawl.journal) × (left' ≡ left) × (shown' ≡ shown)
          → (seen : List Exchange) × IsRefused (world link (gives clock) crawl.frontier.settings now now') crawl.frontier known adds seen
          × (IsTrue (link.tells now) → link.exchanges now' ≡ link.exchanges now ++ seen)
          → (visits : List Visit) × (core : Core) × (seen : List Exchange)
          × Keeps of (world link (gives clock) begun.frontier.settings start now') begun.frontier core held crawl'.journal volume left' (sink.written out) (sink.written shown')
          (link.exchanges start) (link.exchanges now') visits seen
          × IsRefused (world link (gives clock) begun.frontier.settings start now') core known adds seen
      going_refused crawl' left' shown' known adds held was same refused =
          let kept = keeps_refused of link gives laws clock begun.frontier.settings start now begun.frontier crawl.frontier held crawl.journal volume left (sink.written out) (sink.written shown) was.within
          now' so_far.link_onward next known adds refused.0 (so_far.keeps held was)
          (subst (λ (s : Settings). IsRefused (world link (gives clock) s now now') crawl.frontier known adds refused.0) so_far.settings refused.1) refused.2 in (
            kept.0,
            kept.1,
            kept.2,
            subst (λ (j : Journal). Keeps of (world link (gives clock) begun.frontier.settings start now') begun.frontier kept.1 held j volume left' (sink.written out) (sink.written shown')
                (link.exchanges start) (link.exchanges now') kept.0 kept.2) (sym same.0)
                (subst (λ (x : V). Keeps of (world link (gives clock) begun.frontier.settings start now') begun.frontier kept.1 held crawl.journal volume x (sink.written out) (sink.written shown')
                (link.exchanges start) (link.exchanges now') kept.0 kept.2) (sym same.1)
                (subst (λ (x : W). Keeps of (world link (gives clock) begun.frontier.settings start now') begun.frontier kept.1 held crawl.journal volume left (sink.written out) (sink.written x)
                (link.exchanges start) (link.exchanges now') kept.0 kept.2) (sym same.2) kept.3)),
            kept.4,
          )

      -- so whatever came of a turn that met no fault
      pub going_on : (turn : Turn) (crawl' : OpenCrawl) (left' : V) (shown' : W)
          → (IsIdle (Ok turn) → (crawl' ≡ crawl) × (left' ≡ left) × (shown' ≡ shown) × (now' ≡ now))
          → (◌≡◌ {A = Result Turn Why} (Ok turn) (Ok turned.Worked) → IsTrue (of.tells left) → IsTrue (sink.tells shown)
          → length (of.contents left (warc_file (next_place crawl.frontier))) ≡ (next_place crawl.frontier).end → (held : List Event) → Rests of crawl.journal left held
          → (v : Visit) × Keeps of (world link (gives clock) crawl.frontier.settings now now') crawl.frontier crawl'.frontier held crawl'.journal left left' (sink.written shown) (sink.written shown')
          (link.exchanges now) (link.exchanges now') (v ∷ []) [])
          → (◌≡◌ {A = Result Turn Why} (Ok turn) (Ok turned.Worked) → AllByRecursion IsEvent crawl'.frontier.events)
          → (◌≡◌ {A = Result Turn Why} (Ok turn) (Ok turned.Worked) → crawl'.frontier.settings ≡ crawl.frontier.settings)
          → (IsTrue (sink.tells shown) → (lines : List ℕ) × (sink.written shown' ≡ sink.written shown ++ lines))
          → of.tells left' ≡ of.tells left → sink.tells shown' ≡ sink.tells shown → of.faults left ≤ of.faults left' → sink.faults shown ≤ sink.faults shown'
          → Going crawl' left' shown' now'
      going_on turned.Worked crawl' left' shown' idle worked valid settings grown volume_tells sink_tells volume_later sink_later =
          going_more crawl' left' shown' (worked refl) (valid refl) (settings refl) grown volume_tells sink_tells volume_later sink_later
      going_on (turned.Empty next) crawl' left' shown' idle worked valid settings grown volume_tells sink_tells volume_later sink_later =
          going_same crawl' left' shown' now' (idle tt)
      going_on turned.Over crawl' left' shown' idle worked valid settings grown volume_tells sink_tells volume_later sink_later =
          going_same crawl' left' shown' now' (idle tt)
