-- Texts that are codes: a number, or a minus and a number that is not 0.
use Rattle.std.proofs.Common.{◌≡◌, ◌≢◌, ◌-◌, ◌<◌, ◌^◌, ℕ, ℤ, pos, negsuc, suc, List, [], ◌∷◌, get_or, take, drop, length, sym, ap, ◌∙◌, arith}
use Rattle.std.specs.Prelude.{IsTrue, decimal}
use Rattle.std.specs.Fmt.{signed_decimal}
use Rattle.std.proofs.lemmas.Bool.{leb-true, le-leb}
use Rattle.std.proofs.lemmas.Str.Parse.{digit_at}
use Rattle.std.proofs.lemmas.Fmt.{decimal_nonempty, digits_decimal, decimal_injective}
use Rattle.journal_read.specs.Lines.{is_code, IsPlainCode, IsMinusCode}
use Rattle.journal_read.proofs.Numbers.{own}
use Rattle.journal_read.proofs.Cells.{behind}

abbrev pub IsCodeText : List ℕ → ℤ → Type 0
IsCodeText text code = (text ≡ signed_decimal code) × IsTrue (is_code code)

pub no_minus : (n : ℕ) → n < 2 ^ 64 → get_or (decimal n) 0 0 ≡ 45 → ⊥
no_minus n small e =
    let d = digit_at (decimal n) 0 (digits_decimal own n small) (decimal_nonempty n small) in
    omega (arith, d, e)

pub no_code_empty : (text : List ℕ) → length text ≡ 0 → (code : ℤ) → IsCodeText text code → ⊥
no_code_empty text e (pos n) is =
    let small = leb-true n 999 is.1 in
    omega (arith, decimal_nonempty n (omega arith), ap length is.0)
no_code_empty text e (negsuc n) is = omega (arith, ap length is.0)

-- a text that does not begin with a minus is a code where it is a plain one
pub plain_of : (text : List ℕ) → get_or text 0 0 ≢ 45 → (code : ℤ) → IsCodeText text code → IsPlainCode text code
plain_of text first (pos n) is = (is.0, leb-true n 999 is.1)
plain_of text first (negsuc n) is = absurd (first (ap (λ t. get_or t 0 0) is.0))

pub code_of_plain : (text : List ℕ) (code : ℤ) → IsPlainCode text code → IsCodeText text code
code_of_plain text (pos n) is = (is.0, le-leb n 999 is.1)
code_of_plain text (negsuc n) is = absurd is

-- one that does is a code where the rest is one below 0
pub minus_of : (text : List ℕ) → get_or text 0 0 ≡ 45 → (code : ℤ) → IsCodeText text code → IsMinusCode (take (length text - 1) (drop 1 text)) code
minus_of text first (pos n) is = absurd (no_minus n (let small = leb-true n 999 is.1 in omega arith) (ap (λ t. get_or t 0 0) (sym is.0) ∙ first))
minus_of text first (negsuc n) is = (behind text 1 ∙ ap (drop 1) is.0, leb-true n 9997 is.1)

pub code_of_minus : (text : List ℕ) → get_or text 0 0 ≡ 45 → 0 < length text → (code : ℤ) → IsMinusCode (take (length text - 1) (drop 1 text)) code → IsCodeText text code
code_of_minus text first some (pos n) is = absurd is
code_of_minus [] first some (negsuc n) is = absurd (omega arith)
code_of_minus (b ∷ bs) first some (negsuc n) is =
    let rest : bs ≡ decimal (suc n) = sym (behind (b ∷ bs) 1) ∙ is.0 in
    (cc, le-leb n 9997 is.1)

pub no_minus_zero : (digits : List ℕ) → digits ≡ decimal 0 → (code : ℤ) → IsMinusCode digits code → ⊥
no_minus_zero digits zero (pos n) is = is
no_minus_zero digits zero (negsuc n) is =
    let same = decimal_injective 0 (suc n) (omega arith) (omega arith) (sym zero ∙ is.0) in
    omega arith
