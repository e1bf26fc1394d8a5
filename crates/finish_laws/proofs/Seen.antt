-- A finish shows the links and the payload of the response that was seen, and without a success it shows nothing.
use Rattle.std.proofs.Common.{◌≡◌, inl, inr, ℕ, ◌/◌, true, false, nat_lt, nat_le, ◌==◌, ◌&&◌, List, [], ◌∷◌, map, length, pos, ℤ, refl, sym, ◌∙◌, ap, subst, arith, Option, Some, None}
use Rattle.std.specs.Prelude.{if◌then◌else◌, find, nat_abs, is_some}
use Rattle.std.proofs.lemmas.Bool.{cases_Bool, and_from, le-leb}
use Rattle.httparse.specs.Grammar.{status_code}
use Rattle.crawl_kinds.specs.declared.event.Body.{Body}
use Rattle.crawl_kinds.specs.declared.event.End.{End}
use Rattle.crawl_kinds.specs.declared.event.Outcome.{Outcome}
use Rattle.crawl_kinds.specs.declared.event.Outcome.TheVariants.{Success}
use Rattle.crawl_kinds.specs.declared.event.Verdict.{Verdict}
use Rattle.crawl_kinds.specs.declared.event.Verdict.TheVariants.{Allowed, Precluded, Needed, Unsupported, Unreachable}
use Rattle.crawl_kinds.specs.declared.item.Item.{Item}
use Rattle.crawl_kinds.specs.Event.{Finishing}
use Rattle.crawl_history.specs.Codes.{redirect_letter}
use Rattle.crawl_history.specs.Ends.{Suits, has_no_cause, is_fetched_end}
use Rattle.crawl_history.specs.Facts.{Archive, Facts, Link}
use Rattle.crawl_history.specs.Outcomes.{is_prerequisite}
use Rattle.crawl_history.specs.Robots.{cited_block, most_redirects, redirect_count, page_links, redirect_in, redirect_of, status_class}
use Rattle.core_facts.specs.CoreFacts.{Pages}
use Rattle.crawl_facts.specs.Pages.{ArePages, link_of}
use Rattle.extract_spec.specs.Links.{is_redirection, links_of}
use Rattle.extract_spec.specs.declared.found.Found.{Found}
use Rattle.frontier_adds.specs.Candidates.{found_in, found_redirect}
use Rattle.frontier_core.specs.Core.{Core, facts}
use Rattle.frontier_core.specs.Finishing.{Shows}
use Rattle.http_message.specs.declared.front.Reply.{Reply}
use Rattle.page_spec.specs.Response.{fields_of}
use Rattle.process_chains.specs.Done.{AreLinks, item_links, Done, IsReply, is_redirect}
use Rattle.process_chains.specs.Endings.{end_with}
use Rattle.visit_spec.specs.Recorded.{payload_in}

-- ---- links

-- the first redirect of links leads where it does in what a history has of them
found_alike : (pages : Pages) (core : Core) (class : List ℕ) (links : List Found)
    → found_in class (find is_redirect links) ≡ redirect_in (facts core pages) class (find (λ l. l.letter == redirect_letter) (map link_of links))
found_alike pages core class [] = refl
found_alike pages core class (found ∷ links) =
    elim (cases_Bool (found.letter == redirect_letter)) [
      | inl e ↦ rw e refl
      | inr e ↦ rw e (found_alike pages core class links)
    ]

-- a status with 3 as its first digit is a redirection's
is_third : (n : ℕ) → n / 100 ≡ 3 → is_redirection n ≡ true
is_third n e = and_from (nat_le 300 n) (nat_le n 399) (le-leb 300 n (omega (arith, e))) (le-leb n 399 (omega (arith, e)))

-- a page leads to all its links
all_links : (item : Item) (status : ℕ) (links : List Found) → is_prerequisite item ≡ false → item_links item status links ≡ links
all_links item status links page = rw page refl

-- ---- without a response

-- no success
pub no_success : (f : Facts) (a : Archive) (n : ℕ) (item : Item) (end : End) (verdict : Verdict) → end.body ≡ None → Suits f a n item end verdict → end.outcome ≡ Success → ⊥
no_success f a n item end Allowed none suits e =
    let came : is_fetched_end f a item n end Success ≡ true = subst (λ (o : Outcome). is_fetched_end f a item n end o ≡ true) e suits.0 in
    let P : Option Body → Type 0 =
    λ o. (is_some o && nat_lt 0 (length (cited_block a o)) && f.fits item.uri (cited_block a o) end && has_no_cause end) ≡ true in
    let bare : P None = subst P none came in
    cc (bare)
no_success f a n item end Precluded none suits e = let o = ap (λ (x : End). x.outcome) suits in cc (e, o)
no_success f a n item end Needed none suits e = let o = ap (λ (x : End). x.outcome) suits in cc (e, o)
no_success f a n item end Unsupported none suits e = let o = ap (λ (x : End). x.outcome) suits in cc (e, o)
no_success f a n item end Unreachable none suits e = let o = ap (λ (x : End). x.outcome) suits in cc (e, o)

-- ---- with one

-- what is known of a response and its links, and where it is recorded
pub record Seen (pages : Pages) (a : Archive) (core : Core) (d : Done) (c : Finishing) (reply : Reply) (body : Body) : Type 0 where
  pub are : ArePages core.settings pages
  pub whole : IsReply core.settings.max_response_bytes reply
  pub links : AreLinks d.work.item reply d.links
  pub status : d.ending.code ≡ pos reply.status
  pub item : c.item ≡ d.work.item
  pub end : c.end ≡ end_with d.ending (Some body)
  pub at : a body.spot ≡ reply.block

-- the end cites the block of the response
block_is : (pages : Pages) (a : Archive) (core : Core) (d : Done) (c : Finishing) (reply : Reply) (body : Body) → Seen pages a core d c reply body
    → cited_block a c.end.body ≡ reply.block
block_is pages a core d c reply body seen = ap (λ (e : End). cited_block a e.body) seen.end ∙ seen.at

-- so the links of the page are those of the response
links_are : (pages : Pages) (a : Archive) (core : Core) (d : Done) (c : Finishing) (reply : Reply) (body : Body) (seen : Seen pages a core d c reply body)
    → page_links (facts core pages) a c ≡ map link_of (links_of d.work.item.uri (status_code seen.whole.h) (fields_of seen.whole.h) (payload_in reply))
links_are pages a core d c reply body seen =
    ap (λ (i : Item). pages.links i.uri (cited_block a c.end.body)) seen.item
    ∙ ap (pages.links d.work.item.uri) (block_is pages a core d c reply body seen)
    ∙ seen.are.links d.work.item.uri reply.block seen.whole.h (payload_in reply) seen.whole.whole.head

-- a page leads to all of them
page_shown : (pages : Pages) (a : Archive) (core : Core) (d : Done) (c : Finishing) (reply : Reply) (body : Body) (seen : Seen pages a core d c reply body)
    → is_prerequisite c.item ≡ false → map link_of d.links ≡ page_links (facts core pages) a c
page_shown pages a core d c reply body seen page =
    let found : List Found = links_of d.work.item.uri (status_code seen.whole.h) (fields_of seen.whole.h) (payload_in reply) in
    let same : d.links ≡ item_links d.work.item reply.status found = seen.links.same seen.whole.h (payload_in reply) seen.whole.whole.head in
    let own : is_prerequisite d.work.item ≡ false = sym (ap (λ (i : Item). is_prerequisite i) seen.item) ∙ page in
    ap (map link_of) (same ∙ all_links d.work.item reply.status found own) ∙ sym (links_are pages a core d c reply body seen)

-- a robots file that redirects leads where its first redirect does
robots_shown : (pages : Pages) (a : Archive) (core : Core) (d : Done) (c : Finishing) (reply : Reply) (body : Body) (seen : Seen pages a core d c reply body)
    → status_class c ≡ 3 → found_redirect c.item d.links ≡ redirect_of (facts core pages) a c
robots_shown pages a core d c reply body seen third =
    let found : List Found = links_of d.work.item.uri (status_code seen.whole.h) (fields_of seen.whole.h) (payload_in reply) in
    let code : c.end.code ≡ pos reply.status = ap (λ (e : End). e.code) seen.end ∙ seen.status in
    let status : status_class c ≡ reply.status / 100 = ap (λ (n : ℤ). nat_abs n / 100) code in
    let redirection : is_redirection reply.status ≡ true = is_third reply.status (sym status ∙ third) in
    let first : find is_redirect d.links ≡ find is_redirect found = seen.links.redirect seen.whole.h (payload_in reply) seen.whole.whole.head redirection in
    let told : found_in c.item.class (find is_redirect d.links) ≡ redirect_in (facts core pages) c.item.class (find (λ l. l.letter == redirect_letter) (page_links (facts core pages) a c)) =
    ap (found_in c.item.class) first ∙ found_alike pages core c.item.class found
    ∙ ap (λ (ls : List Link). redirect_in (facts core pages) c.item.class (find (λ l. l.letter == redirect_letter) ls)) (sym (links_are pages a core d c reply body seen)) in
    ap (λ (o : Option (List ℕ)). if nat_lt (redirect_count c.item) most_redirects then o else None) told

-- so links and payload are those that the pages show
pub seen_shows : (pages : Pages) (a : Archive) (core : Core) (d : Done) (c : Finishing) (reply : Reply) (body : Body) → Seen pages a core d c reply body
    → Shows (facts core pages) a c d.links (payload_in reply)
seen_shows pages a core d c reply body seen =
    record {
      found = record {
        page = λ came page. page_shown pages a core d c reply body seen page;
        robots = λ came robots third. robots_shown pages a core d c reply body seen third;
      };
      text = λ came robots.
          sym (ap pages.payload (block_is pages a core d c reply body seen) ∙ seen.are.payload reply.block seen.whole.h (payload_in reply) seen.whole.whole.head);
    }

-- without a success nothing has to be shown
pub none_shows : (f : Facts) (a : Archive) (c : Finishing) (links : List Found) (payload : List ℕ) → (c.end.outcome ≡ Success → ⊥) → Shows f a c links payload
none_shows f a c links payload never =
    record {
      found = record { page = λ came page. absurd (never came); robots = λ came robots third. absurd (never came) };
      text = λ came robots. absurd (never came);
    }
