-- What was recorded of visits is held by every archive of the WARC files.
use Rattle.std.proofs.Common.{◌≡◌, ℕ, ◌+◌, List, [], ◌∷◌, ◌++◌, length, refl, sym, ◌∙◌, ap, subst, append_assoc, length-append, Option, Some, None}
use Rattle.std.specs.List.{AllByRecursion}
use Rattle.std.proofs.lemmas.List.{append-nil}
use Rattle.crawl_kinds.specs.Address.{IsUri}
use Rattle.crawl_kinds.specs.declared.event.Body.{Body}
use Rattle.crawl_kinds.specs.declared.event.Event.{Event}
use Rattle.crawl_kinds.specs.declared.item.Work.{Work}
use Rattle.crawl_kinds.specs.declared.settings.Settings.{Settings}
use Rattle.crawl_kinds.specs.declared.snapshot.Edge.{Edge}
use Rattle.crawl_history.specs.Facts.{Archive}
use Rattle.crawl_facts.specs.Archives.{IsArchive}
use Rattle.crawl_facts.specs.Laws.{BehindIsHeld}
use Rattle.crawl_facts.specs.Pages.{naming_at}
use Rattle.frontier_core.specs.Core.{Core}
use Rattle.frontier_memo.proofs.Lists.{all-append}
use Rattle.gate_log.specs.declared.block.Block.{Block}
use Rattle.history_steps.specs.ScansStep.{ScansStep}
use Rattle.http_message.specs.declared.front.Reply.{Reply}
use Rattle.journal_valid.specs.Valid.{IsEvent}
use Rattle.process_chains.specs.Done.{Done}
use Rattle.process_chains.specs.Ends.{World}
use Rattle.record_spec.specs.Base32.{digest_text}
use Rattle.record_spec.specs.Record.{IsResponseRecord}
use Rattle.recover_journal.specs.Holds.{AreEvents, HoldsEvents}
use Rattle.visit_spec.specs.Crawled.{next_place}
use Rattle.visit_spec.specs.Recorded.{HoldsBlock, IsRecordedAs, payload_in}
use Rattle.visit_spec.specs.Visits.{AreVisits, HoldsVisits, Visit, events, warc}
use Rattle.visit_laws.proofs.Placing.{place-visits}

-- the events that a journal holds are valid
lines_valid : (blocks : List Block) (events : List Event) (gates : List ℕ) → AreEvents blocks events gates → AllByRecursion IsEvent events
lines_valid [] events gates are = subst (AllByRecursion IsEvent) (sym are.0) tt
lines_valid (block ∷ blocks) events gates are =
    subst (AllByRecursion IsEvent) (sym are.events_are) (all-append IsEvent are.own are.rest are.lines.valid (lines_valid blocks are.rest are.more are.behind))

all-behind : {X : Type 0} (P : X → Type 0) (xs ys : List X) → AllByRecursion P (xs ++ ys) → AllByRecursion P ys
all-behind P [] ys all = all
all-behind P (x ∷ xs) ys all = all-behind P xs ys all.1

pub held_valid : (held more : List Event) (journal : List ℕ) → HoldsEvents (held ++ more) journal → AllByRecursion IsEvent more
held_valid held more journal holds = all-behind IsEvent held more (lines_valid holds.1.blocks (held ++ more) holds.0 holds.1.lines)

module _ (law : BehindIsHeld) (settings : Settings) (files : ℕ → List ℕ) (a : Archive) (is_archive : IsArchive settings files a) where
  -- the block of a response is held where its record stands
  block_held :
      (place : Edge) (d : Done) (reply : Option Reply) (body : Option Body) (bytes before after : List ℕ)
      → d.settings ≡ settings → IsUri d.work.item.uri → IsRecordedAs place d reply body bytes
      → files place.file ≡ before ++ (bytes ++ after) → length before ≡ place.end → HoldsBlock a reply body
  block_held place d None body bytes before after same uri is file end = tt
  block_held place d (Some reply) None bytes before after same uri is file end = tt
  block_held place d (Some reply) (Some body) bytes before after same uri is file end =
      let written = subst
      (λ (s : Settings). IsResponseRecord (naming_at s place) d.work.item.uri is.span.start (digest_text (payload_in reply)) reply.block bytes)
      same is.written in
      ap (λ (b : Body). a b.spot) is.body_is
      ∙ law settings files a place before bytes after d.work.item.uri reply.block (payload_in reply) is.span.start is_archive file end uri written

  -- and so are the blocks of visits, one behind another
  pub visits_held :
      (scans : ScansStep) (w : World) (old new : Core) (visits : List Visit) (before : List ℕ) → old.settings ≡ settings → AreVisits w old new visits
      → AllByRecursion IsEvent (events visits) → files (next_place old).file ≡ before ++ warc visits → length before ≡ (next_place old).end
      → HoldsVisits a visits
  visits_held scans w old new [] before same are valid file end = tt
  visits_held scans w old new (v ∷ visits) before same are valid file end =
      let is = are.1 in
      let uri : IsUri v.done.work.item.uri = subst (λ (work : Work). IsUri work.item.uri) (sym is.work) valid.0.1.uri.serialised in
      let next = place-visits scans w old are.0 (v ∷ []) (are.0, is, refl) in
      let longer : length (before ++ v.bytes) ≡ (next_place are.0).end
      = length-append before v.bytes
      ∙ ap (λ (n : ℕ). n + length v.bytes) end
      ∙ ap (λ (bytes : List ℕ). (next_place old).end + length bytes) (sym (append-nil v.bytes))
      ∙ sym (ap (λ (place : Edge). place.end) next)
      in
      let there : files (next_place are.0).file ≡ (before ++ v.bytes) ++ warc visits
      = ap (λ (place : Edge). files place.file) next ∙ file ∙ sym (append_assoc before v.bytes (warc visits))
      in (
        block_held (next_place old) v.done v.done.reply v.body v.bytes before (warc visits) (is.settings ∙ same) uri is.recorded file end,
        visits_held scans w are.0 new visits (before ++ v.bytes) (is.ends.settings ∙ ap (λ (core : Core). core.settings) is.emits.kept ∙ same) are.2 valid.1.1
            there longer,
      )
