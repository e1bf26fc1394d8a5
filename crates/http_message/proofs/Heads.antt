-- A head that was read stays, whatever follows, and says whether a whole response begins with it.
use Rattle.std.proofs.Common.{◌≡◌, ℕ, ◌+◌, ◌<◌, ◌≤◌, List, ◌++◌, length, take, drop, Option, Some, None, sym, ap, ◌∙◌, subst, arith, length-append}
use Rattle.std.specs.Prelude.{unwrap_or}
use Rattle.std.proofs.Math.Seq.{take-append_seam, take-append-add}
use Rattle.std.proofs.lemmas.List.{take-append-le, take-append-drop, length-take}
use Rattle.httparse.specs.Grammar.{ResponseHead, print_response, ReadsResponse, HasNoResponse, status_code}
use Rattle.httparse.proofs.GrammarLemmas.{response_prefix_free, ReadsResponse-append}
use Rattle.page_spec.specs.Fields.{announced}
use Rattle.page_spec.specs.Response.{fields_of, most_head, IsHead, IsWholeOf, BeginsWhole, NeverWhole}
use Rattle.http_message.specs.Reading.{NeverHead, Expects}

-- no head of another length can follow
pub long_never : (bytes rest : List ℕ) (h : ResponseHead) → ReadsResponse bytes h rest → most_head < length (print_response h) → NeverHead bytes
long_never bytes rest h reads long = λ more k after head.
    let same = response_prefix_free bytes more h k rest after reads head.reads in
    let len : length (print_response h) ≡ length (print_response k) = ap (λ x. length (print_response x)) same.0 in
    omega (arith, len, head.short, long)

-- nor does one in bytes that hold all of a head of that length
pub full_never : (bytes : List ℕ) → HasNoResponse bytes → most_head ≤ length bytes → NeverHead bytes
full_never bytes none full = λ more h rest head.
    let n = length (print_response h) in
    let fits : n ≤ length bytes = omega (arith, head.short, full) in
    let front : take n bytes ≡ print_response h =
    sym (take-append-le n bytes more fits) ∙ ap (take n) head.reads.1 ∙ take-append_seam (print_response h) rest in
    none h (drop n bytes) (head.reads.0, sym (take-append-drop n bytes) ∙ ap (λ x. x ++ drop n bytes) front)

-- what a whole response at the front of bytes says of the head that was read there
pub record Follows (limit : ℕ) (bytes : List ℕ) (h : ResponseHead) (more : List ℕ) : Type 0 where
  pub body : List ℕ
  pub tail : List ℕ
  pub counted : announced (status_code h) (fields_of h) ≡ Some (length body)
  pub within : length (print_response h) + length body ≤ limit
  pub cut : bytes ++ more ≡ print_response h ++ (body ++ tail)

pub follows : (limit : ℕ) (bytes rest : List ℕ) (h : ResponseHead) → ReadsResponse bytes h rest → (more : List ℕ)
    → BeginsWhole limit (bytes ++ more) → Follows limit bytes h more
follows limit bytes rest h reads more (block, begins) =
    let tail : List ℕ = begins.0 in
    let cut = begins.1 in
    let k : ResponseHead = begins.2.0 in
    let body : List ℕ = begins.2.1 in
    let whole : IsWholeOf limit block k body = begins.2.2 in
    let P : List ℕ → Type 0 = λ g. ReadsResponse g k (body ++ tail) in
    let here : ReadsResponse (bytes ++ more) k (body ++ tail) = subst P (sym cut) (ReadsResponse-append block k body tail whole.head.reads) in
    let same = response_prefix_free bytes more h k rest (body ++ tail) reads here in
    let told : ResponseHead → Option ℕ = λ x. announced (status_code x) (fields_of x) in
    let len : length (print_response h) ≡ length (print_response k) = ap (λ x. length (print_response x)) same.0 in
    let whole_len : length block ≡ length (print_response k) + length body = ap length whole.head.reads.1 ∙ length-append (print_response k) body in
    record {
      body = body;
      tail = tail;
      counted = ap told same.0 ∙ whole.counted;
      within = omega (arith, len, whole_len, whole.within);
      cut = here.1 ∙ ap (λ x. print_response x ++ (body ++ tail)) (sym same.0);
    }

pub uncounted_never : (limit : ℕ) (bytes rest : List ℕ) (h : ResponseHead) → ReadsResponse bytes h rest
    → announced (status_code h) (fields_of h) ≡ None → NeverWhole limit bytes
uncounted_never limit bytes rest h reads none = λ more begins.
    let f = follows limit bytes rest h reads more begins in
    let wrong : Some (length f.body) ≡ None = sym f.counted ∙ none in
    cc

pub long_body_never : (limit body : ℕ) (bytes rest : List ℕ) (h : ResponseHead) → ReadsResponse bytes h rest
    → announced (status_code h) (fields_of h) ≡ Some body → limit < length (print_response h) + body → NeverWhole limit bytes
long_body_never limit body bytes rest h reads counted long = λ more begins.
    let f = follows limit bytes rest h reads more begins in
    let same : length f.body ≡ body = ap (λ o. unwrap_or o 0) (sym f.counted ∙ counted) in
    omega (arith, f.within, same, long)

pub expected : (limit body : ℕ) (bytes rest : List ℕ) (h : ResponseHead) → IsHead bytes h rest
    → announced (status_code h) (fields_of h) ≡ Some body → length (print_response h) + body ≤ limit
    → Expects limit bytes (length (print_response h) + body)
expected limit body bytes rest h head counted fits = record {
  whole = λ more enough.
      let total = length (print_response h) + body in
      let front : bytes ++ more ≡ print_response h ++ (rest ++ more) = (ReadsResponse-append bytes h rest more head.reads).1 in
      let lens : length (bytes ++ more) ≡ length (print_response h) + length (rest ++ more) = ap length front ∙ length-append (print_response h) (rest ++ more) in
      let block : take total (bytes ++ more) ≡ print_response h ++ take body (rest ++ more) = ap (take total) front ∙ take-append-add (print_response h) (rest ++ more) body in
      let body_len : length (take body (rest ++ more)) ≡ body = grind (arith, length-take, lens, enough) in
      let block_len : length (take total (bytes ++ more)) ≡ total = grind (arith, length-take, enough) in (
        drop total (bytes ++ more),
        sym (take-append-drop total (bytes ++ more)),
        (
          h,
          take body (rest ++ more),
          record {
            head = record { reads = (head.reads.0, block); few = head.few; short = head.short };
            counted = counted ∙ ap Some (sym body_len);
            within = omega (arith, block_len, fits);
          },
        ),
      );
  short = λ more few begins.
      let f = follows limit bytes rest h head.reads more begins in
      let same : length f.body ≡ body = ap (λ o. unwrap_or o 0) (sym f.counted ∙ counted) in
      let lens = ap length f.cut ∙ length-append (print_response h) (f.body ++ f.tail) in
      let more_lens = length-append f.body f.tail in
      omega (arith, same, lens, more_lens, few);
  within = fits;
}
