-- Texts that are made, and texts that are refused.
use Rattle.std.proofs.Common.{◌≡◌, ℕ, ◌<◌, Bool, true, false, not, ltb, List, [], ◌∷◌, length, Option, Some, None, Result, Ok, Err, IsOkUnless, refl, sym, ap, ◌∙◌, arith}
use Rattle.std.specs.List.{position_or_len}
use Rattle.std.specs.Prelude.{is_none}
use Rattle.std.proofs.lemmas.Bool.Decides.{nat_tests}
use Rattle.crawl_kinds.specs.declared.text.TextFault.{TextFault}
use Rattle.crawl_kinds.specs.declared.text.TextFault.TheVariants.{NoMemory}
use Rattle.crawl_kinds.specs.Text.{is_text, text_fault}
use Rattle.toml.specs.Data.{Data, as_str}
use Rattle.job_spec.specs.Rules.{as_surt}
use Rattle.job_spec.specs.Texts.{is_surt}

-- a text that is made is one
pub text_of_ok : {T : Type 0} (allowed : ℕ → Bool) (most : ℕ) (text : List ℕ) (r : Result T TextFault) (x : T) → r ≡ Ok x
    → ((fault : TextFault) → text_fault allowed most text ≡ Some fault → r ≡ Err fault) → is_text allowed most text ≡ true
text_of_ok allowed most text r x is refused = go (text_fault allowed most text) refl
  where
    go : (o : Option TextFault) → text_fault allowed most text ≡ o → is_text allowed most text ≡ true
    go None e = ap is_none e
    go (Some fault) e = let other = sym is ∙ refused fault e in cc

-- and one that is refused for another cause than memory is none
pub no_text_of_err : {T : Type 0} (allowed : ℕ → Bool) (most : ℕ) (text : List ℕ) (r : Result T TextFault) (fault : TextFault) → r ≡ Err fault → (fault ≡ NoMemory → ⊥)
    → (text_fault allowed most text ≡ None → IsOkUnless r NoMemory) → is_text allowed most text ≡ false
no_text_of_err allowed most text r fault is other memory = go (text_fault allowed most text) refl
  where
    go : (o : Option TextFault) → text_fault allowed most text ≡ o → is_text allowed most text ≡ false
    go None e = absurd (other (rw is at (memory e)))
    go (Some found) e = ap is_none e

-- all bytes pass
all_pass : (text : List ℕ) → position_or_len (λ b. not true) text ≡ length text
all_pass [] = refl
all_pass (b ∷ text) = omega (arith, all_pass text)

-- each text is a free one
pub no_fault : (text : List ℕ) → length text < 18446744073709551616 → text_fault (λ _. true) 18446744073709551615 text ≡ None
no_fault text short =
    let fits : ltb 18446744073709551615 (length text) ≡ false = grind (arith, nat_tests) in
    let end : ltb (length text) (length text) ≡ false = grind (arith, nat_tests) in
    rw (fits, all_pass text, end)

-- what a text that is read gives of a list of SURT prefixes
pub surt_taken : (d : Data) (text own : List ℕ) → Some text ≡ as_str d → own ≡ text → is_surt text ≡ true → Some own ≡ as_surt d
surt_taken d text own there same is = rw (← there, is) (ap Some same)

pub surt_refused : (d : Data) (text : List ℕ) → Some text ≡ as_str d → is_surt text ≡ false → None ≡ as_surt d
surt_refused d text there is = rw (← there, is)
