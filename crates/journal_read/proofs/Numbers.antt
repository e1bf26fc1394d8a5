-- Texts that are numbers in decimal digits.
use Rattle.std.proofs.Common.{◌≡◌, ◌≢◌, ℕ, ◌<◌, ◌≤◌, ◌^◌, List, length, get_or, Result, Ok, sym, ap, ◌∙◌, ⊎_elim, arith}
use Rattle.std.specs.Prelude.{decimal}
use Rattle.std.specs.Str.{IsUtf8}
use Rattle.std.specs.Str.Parse.{AllDigits, digits_value, ParsesUnsigned}
use Rattle.std.proofs.lemmas.Bool.{cases_eq}
use Rattle.std.proofs.lemmas.Str.{IsUtf8-from_ascii}
use Rattle.std.proofs.lemmas.Str.Parse.{IsNumeralModel, numerals_by_value, tells_digits, digit_at, parse_plain}
use Rattle.std.proofs.lemmas.Result.{OkIff-at_ok}
use Rattle.std.proofs.lemmas.Fmt.{decimal_nonempty, decimal_digit, first_decimal, digits_decimal, IsAscii-decimal, parse-decimal, decimal-digits_value}

pub own : IsNumeralModel (AllDigits 10) (digits_value 10)
own = numerals_by_value (AllDigits 10) tells_digits

abbrev pub IsNumber : List ℕ → ℕ → ℕ → Type 0
IsNumber text most n = (text ≡ decimal n) × (n ≤ most)

pub no_number_empty : (text : List ℕ) (most : ℕ) → most < 2 ^ 64 → length text ≡ 0 → (n : ℕ) → IsNumber text most n → ⊥
no_number_empty text most small e n is = omega (arith, decimal_nonempty n (omega arith), ap length is.0)

pub no_number_plus : (text : List ℕ) (most : ℕ) → most < 2 ^ 64 → get_or text 0 0 ≡ 43 → (n : ℕ) → IsNumber text most n → ⊥
no_number_plus text most small e n is =
    let d = digit_at (decimal n) 0 (digits_decimal own n (omega arith)) (decimal_nonempty n (omega arith)) in
    let f : get_or (decimal n) 0 0 ≡ 43 = ap (λ t. get_or t 0 0) (sym is.0) ∙ e in
    omega (arith, d, f)

pub no_number_zero : (text : List ℕ) (most : ℕ) → most < 2 ^ 64 → get_or text 0 0 ≡ 48 → 1 < length text → (n : ℕ) → IsNumber text most n → ⊥
no_number_zero text most small e long n is =
    let f : get_or (decimal n) 0 0 ≡ 48 = ap (λ t. get_or t 0 0) (sym is.0) ∙ e in
    ⊎_elim
    (λ zero. let l : length text ≡ 1 = ap length is.0 ∙ (ap (λ m. length (decimal m)) zero ∙ ap length (decimal_digit 0 (omega arith))) in omega arith)
    (λ other. omega (arith, first_decimal n (omega arith) (omega arith)))
    (cases_eq n 0)

pub number_is_utf8 : (text : List ℕ) (most : ℕ) → most < 2 ^ 64 → (n : ℕ) → IsNumber text most n → IsUtf8 text
number_is_utf8 text most small n is = rw (is.0) (IsUtf8-from_ascii (decimal n) (IsAscii-decimal n (omega arith)))

pub number_parses : {E : Type 0} (text : List ℕ) (most : ℕ) (r : Result ℕ E) → most < 2 ^ 64 → ParsesUnsigned 64 10 text r → (n : ℕ) → IsNumber text most n → r ≡ Ok n
number_parses text most r small parsed n is = parse-decimal 64 n text r (omega arith) (omega arith) is.0 parsed

pub parsed_number : {E : Type 0} (text : List ℕ) (v : ℕ) (r : Result ℕ E) → r ≡ Ok v → ParsesUnsigned 64 10 text r → get_or text 0 0 ≢ 43 → (get_or text 0 0 ≡ 48 → length text ≤ 1) → text ≡ decimal v
parsed_number text v r e parsed plus zero =
    let p = OkIff-at_ok r _ _ v (parse_plain own 64 text r parsed plus) e in
    let back = decimal-digits_value own text p.0.0 p.0.1 (λ z. omega (arith, zero z, p.0.1)) p.0.2 in
    sym back ∙ ap decimal (sym p.1)
