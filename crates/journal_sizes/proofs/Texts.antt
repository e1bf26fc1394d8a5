-- How long numbers, codes and texts are that stand in a field.
use Rattle.std.proofs.Common.{◌≡◌, ◌⊎◌, inl, inr, ℕ, ℤ, pos, negsuc, ◌<◌, ◌≤◌, ◌^◌, Bool, true, false, List, [], ◌∷◌, length, Option, Some, None, cond, refl, sym, ◌∙◌, ap, subst, ⊎_elim, arith}
use Rattle.std.specs.Prelude.{unwrap_or, IfSome, IsTrue, is_none, nat_lt, not, option_map, position}
use Rattle.std.specs.Fmt.{decimal, signed_decimal}
use Rattle.std.specs.List.{AllByRecursion}
use Rattle.std.specs.Ordering.{int_eq}
use Rattle.std.proofs.lemmas.Bool.{cases_Bool, false≢true, ltb-false, leb-true, or_cases}
use Rattle.std.proofs.lemmas.Bool.Decides.{Decides-int_eq}
use Rattle.std.proofs.lemmas.Fmt.{length-decimal-le, length_signed_le}
use Rattle.crawl_kinds.specs.declared.event.Outcome.{Outcome}
use Rattle.crawl_kinds.specs.declared.event.Outcome.TheVariants.{Success, Failure, Disregard, Retry}
use Rattle.crawl_kinds.specs.declared.text.TextFault.TheVariants.{TooLong, BadByte}
use Rattle.crawl_kinds.specs.Text.{is_text, is_hop}
use Rattle.journal_spec.specs.Fields.{absent, path_field}
use Rattle.journal_valid.specs.Ends.{disregard_codes, failure_codes, is_among, is_status, link_faults, outcome_of, retry_codes}
use Rattle.journal_valid.specs.Items.{IsAddress}

-- ---- numbers

-- no number of 64 bits has more than 20 digits
pub number_short : (n : ℕ) → n < 2 ^ 64 → length (decimal n) ≤ 20
number_short n small = length-decimal-le 20 n (omega arith) (omega arith) small

-- a code with few digits
abbrev pub IsShortCode : ℤ → Type 0
IsShortCode code = length (signed_decimal code) ≤ 20

short_below : (n : ℕ) → n < 10000 → IsShortCode (negsuc n)
short_below n small = length_signed_le 19 (negsuc n) (omega arith) (omega arith)

short_status : (code : ℤ) → is_status code ≡ true → IsShortCode code
short_status (pos n) is = length_signed_le 19 (pos n) (omega (arith, leb-true n 999 is)) (omega (arith, leb-true n 999 is))
short_status (negsuc n) is = absurd (false≢true is)

-- one of a list of them
short_among : (list : List ℤ) → AllByRecursion IsShortCode list → (code : ℤ) → is_among list code ≡ true → IsShortCode code
short_among [] all code is = absurd (false≢true is)
short_among (x ∷ xs) all code is =
    ⊎_elim
    (λ here. subst IsShortCode (sym ((Decides-int_eq code x).0 here)) all.0)
    (λ more. short_among xs all.1 code more)
    (or_cases (int_eq code x) (is_among xs code) is)

-- the cause of a failure
pub cause_short : (cause : ℤ) → is_among (pos 0 ∷ link_faults) cause ≡ true → IsShortCode cause
cause_short cause is =
    short_among (pos 0 ∷ link_faults)
    (length_signed_le 19 (pos 0) (omega arith) (omega arith), (short_below 1 (omega arith), (short_below 2 (omega arith), (short_below 3 (omega arith), tt)))) cause is

-- what an outcome is chosen by
chosen : (s r f d : Bool) (o : Outcome) → cond s (Some Success) (cond r (Some Retry) (cond f (Some Failure) (cond d (Some Disregard) None))) ≡ Some o
    → (s ≡ true) ⊎ ((r ≡ true) ⊎ ((f ≡ true) ⊎ (d ≡ true)))
chosen true r f d o e = inl refl
chosen false true f d o e = inr (inl refl)
chosen false false true d o e = inr (inr (inl refl))
chosen false false false true o e = inr (inr (inr refl))
chosen false false false false o e = absurd (cc)

-- a code that has an outcome
pub code_short : (code : ℤ) (o : Outcome) → outcome_of code ≡ Some o → IsShortCode code
code_short code o e =
    ⊎_elim (short_status code)
    (⊎_elim
    (short_among retry_codes (short_below 1 (omega arith), (short_below 2 (omega arith), (short_below 3 (omega arith), (short_below 49 (omega arith), tt)))) code)
    (⊎_elim
    (short_among failure_codes (short_below 6 (omega arith), (short_below 7 (omega arith), (short_below 60 (omega arith), (short_below 403 (omega arith), tt)))) code)
    (short_among disregard_codes (short_below 9997 (omega arith), tt) code)))
    (chosen (is_status code) (is_among retry_codes code) (is_among failure_codes code) (is_among disregard_codes code) o e)

-- ---- texts

-- a text has at most as many bytes as its kind
pub text_short : (p : ℕ → Bool) (most : ℕ) (xs : List ℕ) → is_text p most xs ≡ true → length xs ≤ most
text_short p most xs is =
    ⊎_elim
    (λ long. absurd (let fault = ap (λ b. is_none (cond b (Some (TooLong (length xs))) (option_map BadByte (position (λ b. not (p b)) xs)))) (sym long) ∙ is in cc))
    (λ short. ltb-false _ _ short)
    (cases_Bool (nat_lt most (length xs)))

pub address_short : (text : List ℕ) → IsAddress text → length text ≤ 2083
address_short text is = is.serialised.reads.within

-- the path of an item, where `-` stands for an empty one
pub path_short : (path : List ℕ) → IsTrue (is_text is_hop 250 path) → length (path_field path) ≤ 250
path_short [] is = omega arith
path_short (letter ∷ letters) is = text_short is_hop 250 (letter ∷ letters) is

-- the address that led to it, where there is one
pub via_short : (via : Option (List ℕ)) → IfSome via IsAddress → length (unwrap_or via absent) ≤ 2083
via_short None is = omega arith
via_short (Some uri) is = address_short uri is
