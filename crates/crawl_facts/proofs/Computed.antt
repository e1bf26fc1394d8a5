-- Pages that agree with the definitions, computed.
use Rattle.std.proofs.Common.{◌≡◌, ℕ, Bool, List, length, map, sym, ◌∙◌, ap, subst}
use Rattle.std.specs.Bool.{Decides}
use Rattle.httparse.specs.Grammar.{ResponseHead, status_code}
use Rattle.crawl_kinds.specs.declared.event.End.{End}
use Rattle.crawl_kinds.specs.declared.settings.Settings.{Settings}
use Rattle.page_spec.specs.Fields.{Pair}
use Rattle.page_spec.specs.Response.{fields_of, IsHead}
use Rattle.extract_spec.specs.Links.{links_of}
use Rattle.record_spec.specs.Base32.{digest_text}
use Rattle.record_spec.specs.Record.{response_record}
use Rattle.core_facts.specs.CoreFacts.{Pages}
use Rattle.crawl_facts.specs.Pages.{IsEndOf, link_of, naming_at, place_after, spot_at}
use Rattle.crawl_facts.specs.Laws.{ThereArePages}
use Rattle.crawl_facts.proofs.Heads.{head_is_read, parts_in, status_in}
use Rattle.crawl_facts.proofs.Fitting.{end_is, is_end_in}
use Rattle.crawl_facts.proofs.Spots.{record_is_long, some_date}

pages_of : Settings → Pages
pages_of settings =
    record {
      payload = λ block. (parts_in block).1;
      links = λ uri block. map link_of (links_of uri (status_in block) (parts_in block).0 (parts_in block).1);
      fits = λ uri block end. is_end_in settings.max_response_bytes block (status_in block) (parts_in block).0 (parts_in block).1 end;
      next_spot = λ edge c block.
          spot_at (place_after edge)
          (length (response_record (naming_at settings (place_after edge)) c.item.uri some_date (digest_text (parts_in block).1) block));
    }

links_read : (uri : List ℕ) (s t : ℕ) (p q : List Pair × List ℕ) → s ≡ t → p ≡ q
    → map link_of (links_of uri s p.0 p.1) ≡ map link_of (links_of uri t q.0 q.1)
links_read uri s t p q es ep =
    ap (λ (n : ℕ). map link_of (links_of uri n p.0 p.1)) es ∙ ap (λ (r : List Pair × List ℕ). map link_of (links_of uri t r.0 r.1)) ep

fits_read : (limit : ℕ) (block : List ℕ) (h : ResponseHead) (rest : List ℕ) (end : End) → IsHead block h rest
    → Decides (is_end_in limit block (status_in block) (parts_in block).0 (parts_in block).1 end) (IsEndOf limit block h rest end)
fits_read limit block h rest end head =
    let read = head_is_read block h rest head in
    let same : is_end_in limit block (status_code h) (fields_of h) rest end ≡ is_end_in limit block (status_in block) (parts_in block).0 (parts_in block).1 end =
    ap (λ (n : ℕ). is_end_in limit block n (fields_of h) rest end) (sym read.0)
    ∙ ap (λ (r : List Pair × List ℕ). is_end_in limit block (status_in block) r.0 r.1 end) (sym read.1) in
    subst (λ (b : Bool). Decides b (IsEndOf limit block h rest end)) same (end_is limit block h rest end head)

pub there_are : ThereArePages
unfolding pages_of
there_are settings = (
  pages_of settings,
  record {
    payload = λ block h rest head. ap (λ (r : List Pair × List ℕ). r.1) (head_is_read block h rest head).1;
    links = λ uri block h rest head.
        let read = head_is_read block h rest head in
        links_read uri (status_in block) (status_code h) (parts_in block) (fields_of h, rest) read.0 read.1;
    fits = λ uri block end h rest head. fits_read settings.max_response_bytes block h rest end head;
    next_spot = λ edge c fetch block h rest bytes fetched head written.
        let place = place_after edge in
        let payload : (parts_in block).1 ≡ rest = ap (λ (r : List Pair × List ℕ). r.1) (head_is_read block h rest head).1 in
        ap (λ (text : List ℕ). spot_at place (length (response_record (naming_at settings place) c.item.uri some_date (digest_text text) block))) payload
        ∙ ap (spot_at place) (record_is_long (naming_at settings place) c.item.uri fetch.start (digest_text rest) block bytes written);
  },
)
