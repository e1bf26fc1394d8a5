-- What a crawl keeps, as the top call says it.
use Rattle.std.proofs.Common.{◌≡◌, ◌≢◌, ℕ, ◌≤◌, List, [], ◌∷◌, ◌++◌, length, take, sym, ◌∙◌, ap, subst}
use Rattle.std.specs.Prelude.{All}
use Rattle.std.proofs.lemmas.List.{length-take-le}
use Rattle.crawl_kinds.specs.Address.{IsUri}
use Rattle.crawl_kinds.specs.declared.event.Event.{Event}
use Rattle.crawl_kinds.specs.declared.settings.Settings.{Settings}
use Rattle.crawl_kinds.specs.declared.snapshot.Edge.{Edge}
use Rattle.crawl_traits.specs.Images.{Image}
use Rattle.crawl_traits.specs.declared.file.FileId.{FileId}
use Rattle.crawl_traits.specs.declared.link.Exchange.{Exchange}
use Rattle.crawl_traits.specs.declared.link.Link.{Ghosts as LinkGhosts}
use Rattle.crawl_traits.specs.declared.volume.Volume.{Ghosts}
use Rattle.crawl_history.specs.Citations.{cited_end}
use Rattle.crawl_history.specs.Facts.{Archive, Facts}
use Rattle.crawl_history.specs.History.{history_of}
use Rattle.crawl_history.specs.Steps.{Legal}
use Rattle.core_facts.specs.CoreFacts.{Pages, facts_with}
use Rattle.crawl_facts.specs.Archives.{IsArchive}
use Rattle.crawl_facts.specs.Pages.{place_after}
use Rattle.crawl_laws.specs.Laws.{OpeningGoesOn, VisitsAreHeld}
use Rattle.frontier_core.specs.Core.{Core, facts}
use Rattle.frontier_core.specs.Standing.{Stands}
use Rattle.history_laws.specs.Laws.{LegalIsComplete, LegalIsPolite}
use Rattle.job_order.specs.declared.read.Job.{Job}
use Rattle.open_crawl.specs.JobFile.{IsTextOfJob}
use Rattle.open_crawl.specs.Opening.{Begins}
use Rattle.process_chains.specs.Ends.{World}
use Rattle.recover_journal.specs.Holds.{journal_file, HoldsEvents}
use Rattle.recover_journal.specs.Rest.{Rests}
use Rattle.recover_journal.specs.declared.journal.Journal.{Journal}
use Rattle.visit_spec.specs.Crawled.{IsRefused, Keeps, next_place, warc_file}
use Rattle.visit_laws.specs.Laws.{Stretch, world_in}
use Rattle.visit_spec.specs.Visits.{AreVisits, HoldsVisits, Visit, events, warc}
use Rattle.job_commands.specs.Opened.{Reopened}
use Rattle.crawl_run.specs.Crawl.{IsFull, IsGood, IsOpened, IsReached, Recorded, warc_files}
use Rattle.crawl_run.proofs.Ends.{opened_end}

-- a WARC file is not the journal
not_journal : (place : Edge) → warc_file place ≢ journal_file
not_journal place same = absurd (cc same)

-- visits leave settings and scope
still_settings : (w : World) (old new : Core) (visits : List Visit) → AreVisits w old new visits → new.settings ≡ old.settings
still_settings w old new [] are = ap (λ (c : Core). c.settings) are
still_settings w old new (v ∷ visits) are =
    still_settings w are.0 new visits are.2 ∙ are.1.ends.settings ∙ ap (λ (c : Core). c.settings) are.1.emits.kept

still_scope : (w : World) (old new : Core) (visits : List Visit) → AreVisits w old new visits → new.scope ≡ old.scope
still_scope w old new [] are = ap (λ (c : Core). c.scope) are
still_scope w old new (v ∷ visits) are =
    still_scope w are.0 new visits are.2 ∙ are.1.ends.scope ∙ ap (λ (c : Core). c.scope) are.1.emits.kept

-- so the facts stay
same_facts : (old new : Core) (pages : Pages) → new.settings ≡ old.settings → new.scope ≡ old.scope → facts new pages ≡ facts old pages
same_facts old new pages settings scope =
    ap (λ (s : Settings). facts_with s (new.scope ∷ []) pages) settings ∙ ap (λ x. facts_with old.settings (x ∷ []) pages) scope

good : LegalIsComplete → LegalIsPolite → (f : Facts) (a : Archive) (held : List Event) → Legal f a held → IsGood f a held
good complete polite f a held legal =
    record { legal = legal; complete = complete.complete f a held legal; polite = polite.polite f a held legal }

-- what is opened behind a legal history is legal
pub begun_by : OpeningGoesOn → (text : List ℕ) (job : Job) (moment : ℕ) (held new : List Event) (old : Core) → IsTextOfJob text job → All IsUri job.seeds → Begins job moment held new
    → old.settings ≡ job.settings → old.scope ≡ job.scope → old.events ≡ held ++ new
    → (pages : Pages) (a : Archive) → Legal (facts old pages) a held → Legal (facts old pages) a old.events
begun_by law text job moment held new old is forms begins settings scope all pages a legal =
    let own = facts_with job.settings (job.scope ∷ []) pages in
    let same : facts old pages ≡ own =
    ap (λ (s : Settings). facts_with s (old.scope ∷ []) pages) settings ∙ ap (λ x. facts_with job.settings (x ∷ []) pages) scope in
    let whole : Legal own a (held ++ new) = law text job moment held new pages a is forms begins (subst (λ (f : Facts). Legal f a held) same legal) in
    subst (λ (es : List Event). Legal (facts old pages) a es) (sym all) (subst (λ (f : Facts). Legal f a (held ++ new)) (sym same) whole)

-- every archive of the WARC files has what the visits recorded
pub kept_by : {V C L : Type 0} (of : Ghosts V) (link : LinkGhosts L) (gives : C → ℕ → Type 0) → VisitsAreHeld link gives
    → (time : Stretch C L) (old core : Core) (journal : Journal) (mid left : V) (written shown : List ℕ) (went gone : List Exchange) (visits : List Visit) (seen : List Exchange)
    → ((journal : Journal) (volume : V) (held : List Event) → Rests of journal volume held → HoldsEvents held (of.contents volume journal_file))
    → (next_place old).end ≤ length (of.contents mid (warc_file (next_place old)))
    → Keeps of (world_in link gives time) old core old.events journal mid left written shown went gone visits seen
    → (a : Archive) → IsArchive old.settings (warc_files (of.contents left)) a → HoldsVisits a visits
kept_by of link gives law time old core journal mid left written shown went gone visits seen read within keeps a archive =
    let place : Edge = next_place old in
    law time old core visits old.events (of.contents left journal_file) (take place.end (of.contents mid (warc_file place))) (warc_files (of.contents left)) a
    keeps.are (read journal left (old.events ++ events visits) keeps.rests) keeps.records (length-take-le place.end (of.contents mid (warc_file place)) within) archive

-- what the visits of a crawl that was opened keep, as it is said of the images
pub recorded_by : {V : Type 0} (of : Ghosts V) (w : Settings → World) (gives : ℕ → Type 0) (before : Image) (crawl : Reopened gives before) (old core : Core) (journal : Journal) (mid left : V)
    (written shown : List ℕ) (went gone : List Exchange) (visits : List Visit) (seen : List Exchange)
    → LegalIsComplete → LegalIsPolite
    → ((journal : Journal) (volume : V) (held : List Event) → Rests of journal volume held → HoldsEvents held (of.contents volume journal_file))
    → IsOpened crawl old → ((pages : Pages) (a : Archive) → Stands pages a old)
    → ((f : FileId) → f ≢ journal_file → of.contents mid f ≡ before f)
    → ((a : Archive) → IsArchive old.settings (warc_files (of.contents left)) a → HoldsVisits a visits)
    → ((pages : Pages) (a : Archive) → Legal (facts old pages) a crawl.found.events → Legal (facts old pages) a old.events)
    → Keeps of (w old.settings) old core old.events journal mid left written shown went gone visits seen
    → Recorded w gives before (of.contents left) written shown went gone core seen
recorded_by of w gives before crawl old core journal mid left written shown went gone visits seen complete polite read opened stands others kept begun keeps =
    let same : (pages : Pages) → facts core pages ≡ facts old pages =
    λ pages. same_facts old core pages (still_settings (w old.settings) old core visits keeps.are) (still_scope (w old.settings) old core visits keeps.are) in
    let place = next_place old in
    record {
      crawl = crawl;
      old = old;
      opened = opened;
      visits = visits;
      are = keeps.are;
      goes_on = λ pages a are archive legal.
          let on = keeps.goes_on pages a are (kept a archive) (stands pages a) (begun pages a legal) in (
            on.0,
            good complete polite (facts old pages) a (old.events ++ events visits) (subst (λ (f : Facts). Legal f a (old.events ++ events visits)) (same pages) on.1),
          );
      holds = read journal left (old.events ++ events visits) keeps.rests;
      records = keeps.records ∙ ap (λ (file : List ℕ). take place.end file ++ warc visits) (others (warc_file place) (not_journal place));
      others = λ f one two. keeps.others f one two ∙ others f one;
      lines = keeps.lines;
      over_link = keeps.over_link;
    }

-- and so where the next end was refused
pub full_by : {V : Type 0} (of : Ghosts V) (w : Settings → World) (gives : ℕ → Type 0) (before : Image) (crawl : Reopened gives before) (old core : Core) (journal : Journal) (mid left : V)
    (written shown : List ℕ) (went gone : List Exchange) (visits : List Visit) (seen : List Exchange) (known adds : ℕ)
    → LegalIsComplete → LegalIsPolite
    → ((journal : Journal) (volume : V) (held : List Event) → Rests of journal volume held → HoldsEvents held (of.contents volume journal_file))
    → IsOpened crawl old → ((pages : Pages) (a : Archive) → Stands pages a old)
    → ((f : FileId) → f ≢ journal_file → of.contents mid f ≡ before f)
    → ((a : Archive) → IsArchive old.settings (warc_files (of.contents left)) a → HoldsVisits a visits)
    → ((pages : Pages) (a : Archive) → Legal (facts old pages) a crawl.found.events → Legal (facts old pages) a old.events)
    → Keeps of (w old.settings) old core old.events journal mid left written shown went gone visits seen
    → IsRefused (w old.settings) core known adds seen
    → IsFull w gives before (of.contents left) written shown went gone known adds
unfolding recorded_by
full_by of w gives before crawl old core journal mid left written shown went gone visits seen known adds complete polite read opened stands others kept begun keeps refused = record {
  core = core;
  seen = seen;
  recorded = recorded_by of w gives before crawl old core journal mid left written shown went gone visits seen complete polite read opened stands others kept begun keeps;
  refused = refused;
}

-- opening cites nothing, so the file reaches as far as the place of the core that was opened
pub reach_by : (before mid : Image) (job : Job) (moment : ℕ) (held new : List Event) (core : Core) → core.events ≡ held ++ new → Begins job moment held new
    → HoldsEvents held (before journal_file) → ((f : FileId) → f ≢ journal_file → mid f ≡ before f) → IsReached before
    → (next_place core).end ≤ length (mid (warc_file (next_place core)))
reach_by before mid job moment held new core is begins holds others reached =
    let place : Edge = place_after (cited_end (history_of held)) in
    let same : next_place core ≡ place = ap (λ (es : List Event). place_after (cited_end (history_of es))) is ∙ ap place_after (opened_end job moment held new begins) in
    subst (λ (at : Edge). at.end ≤ length (mid (warc_file at))) (sym same)
    (subst (λ (file : List ℕ). place.end ≤ length file) (sym (others (warc_file place) (not_journal place))) (reached held holds))
