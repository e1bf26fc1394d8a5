-- Visible texts, and addresses that are written as they are.
use Rattle.std.proofs.Common.{◌≡◌, ℕ, Bool, true, cond, not, ltb, leb, List, [], ◌∷◌, length, Option, Some, None, refl, sym, ap, ◌∙◌, ⊎_elim, arith, position}
use Rattle.std.specs.Prelude.{is_none, option_map}
use Rattle.crawl_kinds.specs.declared.text.TextFault.TheVariants.{TooLong, BadByte}
use Rattle.std.specs.List.{list_all, AllByRecursion}
use Rattle.std.proofs.lemmas.List.Sums.{fails_before_first}
use Rattle.std.proofs.lemmas.List.Elements.{recursion_from_All}
use Rattle.journal_read.proofs.Cells.{absent}
use Rattle.std.specs.Str.{IsUtf8, IsAscii}
use Rattle.std.proofs.lemmas.Bool.{cases_Bool, not-false, false≢true, and_parts, and_from, leb-true}
use Rattle.std.proofs.lemmas.Str.{IsUtf8-from_ascii}
use Rattle.std.proofs.lemmas.Str.Ascii.{IsAscii-nil, IsAscii-cons}
use Rattle.crawl_kinds.specs.Text.{is_visible, is_text}
use Rattle.journal_read.specs.Reading.{AreVisible}

ascii : (text : List ℕ) → AreVisible text → IsAscii text
ascii [] visible = IsAscii-nil
ascii (b ∷ bs) visible =
    let parts = and_parts (is_visible b) (list_all is_visible bs) visible in
    let bounds = and_parts (leb 33 b) (leb b 126) parts.0 in
    let last = leb-true b 126 bounds.1 in
    IsAscii-cons b bs (omega arith) (ascii bs parts.1)

pub visible_is_utf8 : (text : List ℕ) → AreVisible text → IsUtf8 text
visible_is_utf8 text visible = IsUtf8-from_ascii text (ascii text visible)

pub no_place : (o : Option ℕ) → is_none (option_map BadByte o) ≡ true → o ≡ None
no_place None e = refl
no_place (Some i) e = absurd (false≢true e)

pub all_by : (p : ℕ → Bool) (text : List ℕ) → AllByRecursion (λ x. p x ≡ true) text → list_all p text ≡ true
all_by p [] all = refl
all_by p (b ∷ bs) all = and_from (p b) (list_all p bs) all.0 (all_by p bs all.1)

none_bad : (allowed : ℕ → Bool) (text : List ℕ) → is_none (option_map BadByte (position (λ b. not (allowed b)) text)) ≡ true → list_all allowed text ≡ true
none_bad allowed text e =
    let none = no_place (position (λ b. not (allowed b)) text) e in
    all_by allowed text (recursion_from_All (λ x. allowed x ≡ true) text (λ k d h. not-false _ (fails_before_first (λ b. not (allowed b)) text k d (let a = absent (λ b. not (allowed b)) text none in omega arith))))

pub all_from_text : (allowed : ℕ → Bool) (most : ℕ) (text : List ℕ) → is_text allowed most text ≡ true → list_all allowed text ≡ true
all_from_text allowed most text is =
    ⊎_elim
    (λ long. absurd (false≢true (ap (λ b. is_none (cond b (Some (TooLong (length text))) (option_map BadByte (position (λ b. not (allowed b)) text)))) (sym long) ∙ is)))
    (λ short. none_bad allowed text (ap (λ b. is_none (cond b (Some (TooLong (length text))) (option_map BadByte (position (λ b. not (allowed b)) text)))) (sym short) ∙ is))
    (cases_Bool (ltb most (length text)))

pub weaker_all : (p q : ℕ → Bool) (text : List ℕ) → ((b : ℕ) → p b ≡ true → q b ≡ true) → list_all p text ≡ true → list_all q text ≡ true
weaker_all p q [] to all = refl
weaker_all p q (b ∷ bs) to all =
    let parts = and_parts (p b) (list_all p bs) all in
    and_from (q b) (list_all q bs) (to b parts.0) (weaker_all p q bs to parts.1)
