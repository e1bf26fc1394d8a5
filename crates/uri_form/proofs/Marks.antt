-- The first `://` of a text, and the last `/` of a path.
use Rattle.std.proofs.Common.{◌≡◌, ◌≢◌, ℕ, suc, zero, ◌+◌, ◌-◌, ◌<◌, ◌≤◌, Bool, true, false, not, List, [], ◌∷◌, ◌++◌, length, get_or, take, drop, codes, Some, None, refl, ap, ◌∙◌, ⊎_elim, arith, eqb, length-drop}
use Rattle.std.specs.Prelude.{nat_eq}
use Rattle.std.specs.List.{starts_with, before_last, suffix_len}
use Rattle.std.specs.Str.Pattern.{LacksTextAt}
use Rattle.std.proofs.lemmas.Bool.{cases_Bool, cond-false, ne_eqb, eq-eqb, not_from_true, not_from_false}
use Rattle.std.proofs.lemmas.Bool.Decides.{Decides-eqb}
use Rattle.std.proofs.lemmas.List.Sums.{suffix_len_is}
use Rattle.std.proofs.lemmas.Slice.Eq.{starts_is}
use Rattle.url.specs.Ascii.{slash}
use Rattle.uri_spec.specs.Prefix.{after_marks}

abbrev marks : List ℕ
marks = codes "://"

not_here : (s : List ℕ) → LacksTextAt marks s 0 → starts_with nat_eq s marks ≡ false
not_here s lacks =
    ⊎_elim
    (λ yes. absurd (lacks (drop 3 s) ((starts_is Decides-eqb s marks _ refl).0 yes)))
    (λ no. no)
    (cases_Bool (starts_with nat_eq s marks))

pub after_marks-found : (s : List ℕ) (i : ℕ) (rest : List ℕ) → ((k : ℕ) → k < i → LacksTextAt marks s k) → drop i s ≡ marks ++ rest → after_marks s ≡ Some rest
after_marks-found [] i rest before here = absurd (omega (arith, ap length here, length-drop {A = ℕ} i []))
after_marks-found (b ∷ s) zero rest before here = ap after_marks here
after_marks-found (b ∷ s) (suc i) rest before here =
    cond-false _ _ _ (not_here (b ∷ s) (before 0 (omega arith))) ∙ after_marks-found s i rest (λ k less. before (suc k) (omega arith)) here

pub after_marks-none : (s : List ℕ) → ((i : ℕ) → i ≤ length s → LacksTextAt marks s i) → after_marks s ≡ None
after_marks-none [] lacks = refl
after_marks-none (b ∷ s) lacks =
    cond-false _ _ _ (not_here (b ∷ s) (lacks 0 (omega arith))) ∙ after_marks-none s (λ i less. lacks (suc i) (omega arith))

abbrev is_other : ℕ → Bool
is_other b = not (eqb b 47)

pub before_last-found : (bs : List ℕ) (k : ℕ) → k < length bs → get_or bs k 0 ≡ 47 → ((i : ℕ) → k < i → i < length bs → get_or bs i 0 ≢ 47) → before_last (λ b. eqb b slash) bs ≡ take k bs
before_last-found bs k inside here after =
    let back : k + 1 - 1 ≡ k = omega arith in
    let other : (i : ℕ) → k + 1 ≤ i → i < length bs → is_other (get_or bs i 0) ≡ true = λ i from less. not_from_false _ (ne_eqb _ 47 (after i (omega arith) less)) in
    let stops : 0 < k + 1 → is_other (get_or bs (k + 1 - 1) 0) ≡ false = λ _. rw back (not_from_true _ (eq-eqb _ 47 here)) in
    let len : suffix_len is_other bs ≡ length bs - (k + 1) = suffix_len_is is_other bs (k + 1) 0 (omega arith) other stops in
    let place : length bs - suffix_len is_other bs - 1 ≡ k = omega (arith, len) in
    ap (λ n. take n bs) place

pub before_last-none : (bs : List ℕ) → ((i : ℕ) → i < length bs → get_or bs i 0 ≢ 47) → before_last (λ b. eqb b slash) bs ≡ []
before_last-none bs none =
    let len : suffix_len is_other bs ≡ length bs - 0 = suffix_len_is is_other bs 0 0 (omega arith) (λ i from less. not_from_false _ (ne_eqb _ 47 (none i less))) (λ positive. absurd (omega arith)) in
    let place : length bs - suffix_len is_other bs - 1 ≡ 0 = omega (arith, len) in
    ap (λ n. take n bs) place
