-- Whether an end says what its block is, computed.
use Rattle.std.proofs.Common.{◌≡◌, ◌∙◌, ℕ, ◌≤◌, Bool, false, ◌&&◌, ◌==◌, nat_le, List, length, pos, refl, ap, Option, Some, None}
use Rattle.std.specs.Prelude.{bytes_eq, is_none, unwrap_or}
use Rattle.std.specs.Bool.{Decides}
use Rattle.std.specs.Ordering.{int_eq}
use Rattle.std.proofs.lemmas.Bool.{le-leb, leb-true}
use Rattle.std.proofs.lemmas.Bool.Decides.{Decides-and, Decides-eqb, Decides-int_eq}
use Rattle.std.proofs.lemmas.Slice.Eq.{bytes_eq-Decides}
use Rattle.httparse.specs.Grammar.{ResponseHead, status_code}
use Rattle.crawl_kinds.specs.declared.event.Body.{Body}
use Rattle.crawl_kinds.specs.declared.event.Cut.{Cut}
use Rattle.crawl_kinds.specs.declared.event.End.{End}
use Rattle.page_spec.specs.Fields.{Pair, announced, media_of}
use Rattle.page_spec.specs.Response.{fields_of, IsHead}
use Rattle.record_spec.specs.Base32.{digest_text}
use Rattle.crawl_facts.specs.Pages.{IsBodyOf, IsEndOf}

is_counted : Option ℕ → ℕ → Bool
is_counted None n = false
is_counted (Some m) n = m == n

counted : (o : Option ℕ) (n : ℕ) → Decides (is_counted o n) (o ≡ Some n)
unfolding is_counted
counted None n = (λ h. cc (h), λ h. cc (h))
counted (Some m) n = (λ h. ap (λ (k : ℕ). Some k) ((Decides-eqb m n).0 h), λ h. (Decides-eqb m n).1 (ap (λ (o : Option ℕ). unwrap_or o 0) h))

is_body_in : List ℕ → List Pair → List ℕ → Option Body → Bool
is_body_in block pairs rest None = false
is_body_in block pairs rest (Some body) =
    body.size == length block && (bytes_eq body.media (media_of pairs) && bytes_eq body.digest (digest_text rest))

uncut : (o : Option Cut) → Decides (is_none o) (o ≡ None)
uncut None = (λ h. refl, λ h. refl)
uncut (Some cut) = (λ h. cc (h), λ h. cc (h))

abbrev HasBody : List ℕ → ResponseHead → List ℕ → Option Body → Type 0
HasBody block h rest recorded = (body : Body) × (recorded ≡ Some body) × IsBodyOf block h rest body

body_of : (block : List ℕ) (h : ResponseHead) (rest : List ℕ) (recorded : Option Body)
    → Decides (is_body_in block (fields_of h) rest recorded) (HasBody block h rest recorded)
unfolding is_body_in
body_of block h rest None = (λ e. cc (e), λ has. cc (has.1))
body_of block h rest (Some body) =
    let one = Decides-eqb body.size (length block) in
    let two = bytes_eq-Decides body.media (media_of (fields_of h)) in
    let three = bytes_eq-Decides body.digest (digest_text rest) in
    let all = Decides-and _ _ one (Decides-and _ _ two three) in (
      λ e. (body, refl, record { size = (all.0 e).0; media = (all.0 e).1.0; digest = (all.0 e).1.1 }),
      λ has.
          let same : body ≡ has.0 = ap (λ (o : Option Body). unwrap_or o body) has.1 in
          all.1 (ap (λ (b : Body). b.size) same ∙ has.2.size, (ap (λ (b : Body). b.media) same ∙ has.2.media, ap (λ (b : Body). b.digest) same ∙ has.2.digest)),
    )

-- by the status, the fields and the rest that are read of the block
pub is_end_in : ℕ → List ℕ → ℕ → List Pair → List ℕ → End → Bool
is_end_in limit block status pairs rest end =
    is_counted (announced status pairs) (length rest)
    && (nat_le (length block) limit && (int_eq end.code (pos status) && (is_body_in block pairs rest end.body && is_none end.notes.cut)))

pub end_is : (limit : ℕ) (block : List ℕ) (h : ResponseHead) (rest : List ℕ) (end : End) → IsHead block h rest
    → Decides (is_end_in limit block (status_code h) (fields_of h) rest end) (IsEndOf limit block h rest end)
unfolding is_end_in
end_is limit block h rest end head =
    let count = counted (announced (status_code h) (fields_of h)) (length rest) in
    let within : Decides (nat_le (length block) limit) (length block ≤ limit) = (leb-true (length block) limit, le-leb (length block) limit) in
    let code = Decides-int_eq end.code (pos (status_code h)) in
    let all = Decides-and _ _ count (Decides-and _ _ within (Decides-and _ _ code (Decides-and _ _ (body_of block h rest end.body) (uncut end.notes.cut)))) in (
      λ e.
          let parts = all.0 e in
          record {
            whole = record { head = head; counted = parts.0; within = parts.1.0 };
            status = parts.1.1.0;
            body = parts.1.1.1.0;
            uncut = parts.1.1.1.1;
          },
      λ is. all.1 (is.whole.counted, (is.whole.within, (is.status, (is.body, is.uncut)))),
    )
