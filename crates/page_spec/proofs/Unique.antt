-- Bytes begin with at most one head, and so with at most one whole response.
use Rattle.std.proofs.Common.{◌≡◌, ℕ, List, ◌++◌, length, take, Option, Some, sym, ap, ◌∙◌, subst}
use Rattle.std.proofs.Math.Seq.{take-append_seam}
use Rattle.std.specs.Prelude.{unwrap_or}
use Rattle.httparse.specs.Grammar.{ResponseHead, print_response, ReadsResponse, status_code}
use Rattle.httparse.proofs.GrammarLemmas.{response_unique, ReadsResponse-append}
use Rattle.page_spec.specs.Fields.{announced}
use Rattle.page_spec.specs.Response.{fields_of, IsWholeOf, IsOne}

-- the head at the front of bytes that begin with a whole response
pub head_of_front : (limit : ℕ) (given block more : List ℕ) (h : ResponseHead) (body : List ℕ)
    → given ≡ block ++ more → IsWholeOf limit block h body → ReadsResponse given h (body ++ more)
head_of_front limit given block more h body cut whole =
    let P : List ℕ → Type 0 = λ g. ReadsResponse g h (body ++ more) in
    subst P (sym cut) (ReadsResponse-append block h body more whole.head.reads)

same_block : (limit : ℕ) (given block other m n : List ℕ) (h k : ResponseHead) (body body2 : List ℕ)
    → given ≡ block ++ m → IsWholeOf limit block h body → given ≡ other ++ n → IsWholeOf limit other k body2 → block ≡ other
same_block limit given block other m n h k body body2 cut whole cut2 whole2 =
    let same = response_unique given h k _ _ (head_of_front limit given block m h body cut whole) (head_of_front limit given other n k body2 cut2 whole2) in
    let told : ResponseHead → Option ℕ = λ x. announced (status_code x) (fields_of x) in
    let counts : Some (length body) ≡ Some (length body2) = sym whole.counted ∙ ap told same.0 ∙ whole2.counted in
    let count : length body ≡ length body2 = ap (λ o. unwrap_or o 0) counts in
    let first : take (length body) (body ++ m) ≡ body = take-append_seam body m in
    let second : take (length body2) (body2 ++ n) ≡ body2 = take-append_seam body2 n in
    let bodies : body ≡ body2 = sym first ∙ ap (take (length body)) same.1 ∙ ap (λ x. take x (body2 ++ n)) count ∙ second in
    whole.head.reads.1 ∙ ap (λ x. print_response x ++ body) same.0 ∙ ap (λ x. print_response k ++ x) bodies ∙ sym whole2.head.reads.1

pub one_response : (limit : ℕ) → IsOne limit
one_response limit given block other a b =
    same_block limit given block other a.0 b.0 a.2.0 b.2.0 a.2.1 b.2.1 a.1 a.2.2 b.1 b.2.2
