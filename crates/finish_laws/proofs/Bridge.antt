-- What the core asks of an end, of what was processed.
use Rattle.std.proofs.Common.{◌≡◌, ℕ, ◌≤◌, List, [], length, pos, refl, sym, ◌∙◌, ap, subst, arith, Option, Some, None}
use Rattle.std.specs.Prelude.{IsTrue, IfSome, is_some}
use Rattle.crawl_kinds.specs.declared.event.Body.{Body}
use Rattle.crawl_kinds.specs.declared.event.End.{End}
use Rattle.crawl_kinds.specs.declared.item.Item.{Item}
use Rattle.crawl_kinds.specs.declared.item.Work.{Work}
use Rattle.crawl_kinds.specs.declared.settings.Settings.{Settings}
use Rattle.crawl_kinds.specs.declared.snapshot.Edge.{Edge}
use Rattle.crawl_kinds.specs.Event.{Finishing}
use Rattle.crawl_history.specs.Citations.{IsPlacedNext, cited_end}
use Rattle.crawl_history.specs.Ends.{Suits}
use Rattle.crawl_history.specs.Facts.{Archive, Facts}
use Rattle.core_facts.specs.CoreFacts.{Pages}
use Rattle.core_facts.specs.ValidEvent.{is_end}
use Rattle.core_facts.specs.Validity.{ValidIsComputed}
use Rattle.crawl_facts.specs.Pages.{ArePages, IsEndOf, naming_at, place_after, spot_at}
use Rattle.frontier_core.specs.Core.{Core, facts, history}
use Rattle.frontier_core.specs.Finishing.{Shows}
use Rattle.frontier_core.specs.declared.emitted.Emitted.{Emitted}
use Rattle.http_message.specs.declared.front.Reply.{Reply}
use Rattle.journal_valid.specs.Ends.{IsEnd}
use Rattle.process_chains.specs.Done.{AreLinksOf, Done, IsBodyOf as IsBodyFor, IsReply, payload_of}
use Rattle.process_chains.specs.Endings.{end_with}
use Rattle.record_spec.specs.Base32.{digest_text}
use Rattle.record_spec.specs.Record.{IsResponseRecord}
use Rattle.visit_spec.specs.Recorded.{HoldsBlock, HoldsReply, IsRecorded, IsRecordedAs, body_at, payload_in}
use Rattle.finish_laws.specs.Laws.{IsEndFor, ProcessedMayEnd}
use Rattle.finish_laws.proofs.Seen.{Seen, no_success, none_shows, seen_shows}

-- ---- by the reply

-- what is known of what was processed, by its reply and its body, so that both can be told apart by cases
record Known (pages : Pages) (a : Archive) (core : Core) (one : Emitted) (d : Done) (reply : Option Reply) (body : Option Body) (bytes : List ℕ) (c : Finishing) : Type 0 where
  are : ArePages core.settings pages
  is : IsEndFor core one d body c
  same : d.reply ≡ reply
  recorded : IsRecordedAs (place_after (cited_end (history core))) d reply body bytes
  at : HoldsBlock a reply body
  whole : IfSome reply (IsReply core.settings.max_response_bytes)
  links : AreLinksOf d.work.item reply d.links
  status : IfSome reply (λ r. d.ending.code ≡ pos r.status)

-- all of it follows from what was processed and recorded
known : (pages : Pages) (a : Archive) (core : Core) (one : Emitted) (d : Done) (body : Option Body) (bytes : List ℕ) (c : Finishing)
    → ArePages core.settings pages → IsEndFor core one d body c → IsRecorded (cited_end (history core)) d body bytes → HoldsReply a d body
    → Known pages a core one d d.reply body bytes c
known pages a core one d body bytes c are is recorded at =
    record {
      are = are;
      is = is;
      same = refl;
      recorded = recorded;
      at = at;
      whole = subst (λ (s : Settings). IfSome d.reply (IsReply s.max_response_bytes)) is.settings is.done.reply;
      links = is.done.links;
      status = is.done.status;
    }

-- the finish is that of the item that was processed
item_is : (core : Core) (one : Emitted) (d : Done) (body : Option Body) (c : Finishing) → IsEndFor core one d body c → c.item ≡ d.work.item
item_is core one d body c is = is.item ∙ ap (λ (w : Work). w.item) (sym is.work)

-- with a response and a body, that response was seen
seen_of : (pages : Pages) (a : Archive) (core : Core) (one : Emitted) (d : Done) (reply : Reply) (body : Body) (bytes : List ℕ) (c : Finishing)
    → Known pages a core one d (Some reply) (Some body) bytes c → Seen pages a core d c reply body
seen_of pages a core one d reply body bytes c k =
    record { are = k.are; whole = k.whole; links = k.links; status = k.status; item = item_is core one d (Some body) c k.is; end = k.is.end; at = k.at }

-- without a response the end suits its verdict, and has no body
suits_without : (pages : Pages) (a : Archive) (core : Core) (one : Emitted) (d : Done) (bytes : List ℕ) (c : Finishing) → Known pages a core one d None None bytes c
    → Suits (facts core pages) a d.work.tries d.work.item (end_with d.ending None) d.work.verdict
suits_without pages a core one d bytes c k =
    let P : Option Reply → Type 0 = λ r. IsBodyFor (facts core pages) a d.work.item.uri d.ending r None in
    k.is.done.suits (facts core pages) a None (sym k.is.settings) (subst P (sym k.same) refl)

-- links and payload are those that the pages show, with a response and without
shown : (pages : Pages) (a : Archive) (core : Core) (one : Emitted) (d : Done) (reply : Option Reply) (body : Option Body) (bytes : List ℕ) (c : Finishing)
    → Known pages a core one d reply body bytes c → Shows (facts core pages) a c d.links (payload_of reply)
shown pages a core one d None None bytes c k =
    none_shows (facts core pages) a c d.links []
    (λ came. no_success (facts core pages) a d.work.tries d.work.item (end_with d.ending None) d.work.verdict refl (suits_without pages a core one d bytes c k) (sym (ap (λ (e : End). e.outcome) k.is.end) ∙ came))
shown pages a core one d None (Some body) bytes c k = absurd k.recorded
shown pages a core one d (Some reply) None bytes c k = absurd k.recorded
shown pages a core one d (Some reply) (Some body) bytes c k = seen_shows pages a core d c reply body (seen_of pages a core one d reply body bytes c k)

-- ---- the end

-- the body says of the response what it is
end_is : (pages : Pages) (a : Archive) (core : Core) (one : Emitted) (d : Done) (reply : Reply) (body : Body) (bytes : List ℕ) (c : Finishing)
    → (k : Known pages a core one d (Some reply) (Some body) bytes c)
    → IsEndOf core.settings.max_response_bytes reply.block k.whole.h (payload_in reply) (end_with d.ending (Some body))
end_is pages a core one d reply body bytes c k =
    let says : body ≡ body_at (place_after (cited_end (history core))) reply (length bytes) = k.recorded.body_is in
    record {
      whole = k.whole.whole;
      status = k.status ∙ ap (λ (n : ℕ). pos n) k.whole.status_is;
      body = (
        body,
        refl,
        record {
          size = ap (λ (b : Body). b.size) says;
          media = ap (λ (b : Body). b.media) says ∙ k.whole.media_is;
          digest = ap (λ (b : Body). b.digest) says;
        },
      );
      uncut = k.is.done.uncut;
    }

-- the end suits the verdict
suits : (pages : Pages) (a : Archive) (core : Core) (one : Emitted) (d : Done) (reply : Option Reply) (body : Option Body) (bytes : List ℕ) (c : Finishing)
    → Known pages a core one d reply body bytes c → Suits (facts core pages) a d.work.tries d.work.item (end_with d.ending body) d.work.verdict
suits pages a core one d None None bytes c k = suits_without pages a core one d bytes c k
suits pages a core one d None (Some body) bytes c k = absurd k.recorded
suits pages a core one d (Some reply) None bytes c k = absurd k.recorded
suits pages a core one d (Some reply) (Some body) bytes c k =
    let fits : IsTrue (pages.fits d.work.item.uri reply.block (end_with d.ending (Some body))) =
    (k.are.fits d.work.item.uri reply.block (end_with d.ending (Some body)) k.whole.h (payload_in reply) k.whole.whole.head).1 (end_is pages a core one d reply body bytes c k) in
    let P : Option Reply → Type 0 = λ r. IsBodyFor (facts core pages) a d.work.item.uri d.ending r (Some body) in
    k.is.done.suits (facts core pages) a (Some body) (sym k.is.settings) (subst P (sym k.same) (k.at, fits))

-- what is recorded stands at the next place
placed : (pages : Pages) (a : Archive) (core : Core) (one : Emitted) (d : Done) (reply : Option Reply) (body : Option Body) (bytes : List ℕ) (c : Finishing)
    → Known pages a core one d reply body bytes c → IsPlacedNext (facts core pages) a (history core) c body
placed pages a core one d None None bytes c k = tt
placed pages a core one d None (Some body) bytes c k = absurd k.recorded
placed pages a core one d (Some reply) None bytes c k = absurd k.recorded
placed pages a core one d (Some reply) (Some body) bytes c k =
    let edge = cited_end (history core) in
    let place = place_after edge in
    let item : c.item ≡ d.work.item = item_is core one d (Some body) c k.is in
    let fetched : c.end.fetch ≡ Some k.recorded.span = ap (λ (e : End). e.fetch) k.is.end ∙ k.recorded.fetched in
    let P : Settings → List ℕ → Type 0 =
    λ s uri. IsResponseRecord (naming_at s place) uri k.recorded.span.start (digest_text (payload_in reply)) reply.block bytes in
    let written : P core.settings c.item.uri =
    subst (λ (uri : List ℕ). P core.settings uri) (ap (λ (i : Item). i.uri) (sym item)) (subst (λ (s : Settings). P s d.work.item.uri) k.is.settings k.recorded.written) in
    let next : pages.next_spot edge c reply.block ≡ spot_at place (length bytes) =
    k.are.next_spot edge c k.recorded.span reply.block k.whole.h (payload_in reply) bytes fetched k.whole.whole.head written in
    ap (λ (b : Body). b.spot) k.recorded.body_is ∙ sym next ∙ ap (pages.next_spot edge c) (sym k.at)

-- a body is there just where a response is
together : (place : Edge) (d : Done) (reply : Option Reply) (body : Option Body) (bytes : List ℕ) → IsRecordedAs place d reply body bytes → is_some body ≡ is_some reply
together place d None None bytes is = refl
together place d None (Some body) bytes is = absurd is
together place d (Some reply) None bytes is = absurd is
together place d (Some reply) (Some body) bytes is = refl

-- so what was processed is shown, and its end may stand behind the events
pub bridge : ValidIsComputed → ProcessedMayEnd
bridge law =
    record {
      shows = λ pages a core one d body bytes c are is recorded at. shown pages a core one d d.reply body bytes c (known pages a core one d body bytes c are is recorded at);
      may_end = λ pages a core one d body bytes c are is recorded at tries valid.
          let k = known pages a core one d body bytes c are is recorded at in
          let f : Facts = facts core pages in
          let suited : Suits f a d.work.tries d.work.item (end_with d.ending body) d.work.verdict = suits pages a core one d d.reply body bytes c k in
          let at_work : Suits f a one.work.tries one.work.item (end_with d.ending body) one.work.verdict =
          subst (λ (w : Work). Suits f a w.tries w.item (end_with d.ending body) w.verdict) is.work suited in
          let ended : Suits f a one.work.tries one.work.item c.end one.work.verdict =
          subst (λ (e : End). Suits f a one.work.tries one.work.item e one.work.verdict) (sym is.end) at_work in
          let first : 1 ≤ d.work.tries =
          subst (λ (n : ℕ). 1 ≤ n) (sym (ap (λ (w : Work). w.tries) is.work ∙ tries)) (omega (arith)) in
          let can_be : IsEnd (end_with d.ending body) =
          is.done.valid first body (together (place_after (cited_end (history core))) d d.reply body bytes recorded) valid in
          record {
            suits = subst (λ (n : ℕ). Suits f a n one.work.item c.end one.work.verdict) tries ended;
            spot = subst (λ (o : Option Body). IsPlacedNext f a (history core) c o) (sym (ap (λ (e : End). e.body) is.end)) (placed pages a core one d d.reply body bytes c k);
            valid = subst (λ (e : End). IsTrue (is_end e)) (sym is.end) ((law.ends (end_with d.ending body)).1 can_be);
          };
    }
