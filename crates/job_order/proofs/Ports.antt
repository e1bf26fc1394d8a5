-- Texts that are ports: numbers from 1 to 65535 in decimal digits.
use Rattle.std.proofs.Common.{◌≡◌, ◌≢◌, ℕ, ◌<◌, ◌≤◌, true, false, ◌&&◌, le-leb, List, length, get_or, Result, Ok, sym, ap, ◌∙◌, ⊎_elim, arith}
use Rattle.std.specs.Prelude.{decimal, bytes_eq, nat_le}
use Rattle.std.specs.Str.Parse.{AllDigits, digits_value, ParsesUnsigned}
use Rattle.std.proofs.lemmas.Bool.{cases_Bool, cases_eq, and_parts, leb-true}
use Rattle.std.proofs.lemmas.Slice.Eq.{bytes_eq-Decides}
use Rattle.std.proofs.lemmas.Str.Parse.{IsNumeralModel, numerals_by_value, tells_digits, digit_at, parse_plain}
use Rattle.std.proofs.lemmas.Result.{OkIff-at_ok}
use Rattle.std.proofs.lemmas.Fmt.{decimal_nonempty, decimal_digit, first_decimal, digits_decimal, parse-decimal, decimal-digits_value, digits_value-decimal}
use Rattle.job_spec.specs.Texts.{is_port}

own : IsNumeralModel (AllDigits 10) (digits_value 10)
own = numerals_by_value (AllDigits 10) tells_digits

pub no_port_empty : (text : List ℕ) → length text ≡ 0 → (n : ℕ) → 1 ≤ n → n ≤ 65535 → text ≡ decimal n → ⊥
no_port_empty text e n low high is = omega (arith, decimal_nonempty n (omega arith), ap length is)

pub no_port_plus : (text : List ℕ) → get_or text 0 0 ≡ 43 → (n : ℕ) → 1 ≤ n → n ≤ 65535 → text ≡ decimal n → ⊥
no_port_plus text e n low high is =
    let d = digit_at (decimal n) 0 (digits_decimal own n (omega arith)) (decimal_nonempty n (omega arith)) in
    let f : get_or (decimal n) 0 0 ≡ 43 = ap (λ t. get_or t 0 0) (sym is) ∙ e in
    omega (arith, d, f)

pub no_port_zero : (text : List ℕ) → get_or text 0 0 ≡ 48 → (n : ℕ) → 1 ≤ n → n ≤ 65535 → text ≡ decimal n → ⊥
no_port_zero text e n low high is =
    let f : get_or (decimal n) 0 0 ≡ 48 = ap (λ t. get_or t 0 0) (sym is) ∙ e in
    omega (arith, first_decimal n (omega arith) (omega arith))

pub port_parses : {E : Type 0} (text : List ℕ) (r : Result ℕ E) → ParsesUnsigned 16 10 text r → (n : ℕ) → n ≤ 65535 → text ≡ decimal n → r ≡ Ok n
port_parses text r parsed n high is = parse-decimal 16 n text r (omega arith) (omega arith) is parsed

pub parsed_port : {E : Type 0} (text : List ℕ) (v : ℕ) (r : Result ℕ E) → r ≡ Ok v → ParsesUnsigned 16 10 text r → 0 < length text → get_or text 0 0 ≢ 43 → get_or text 0 0 ≢ 48
    → (1 ≤ v) × (v ≤ 65535) × (text ≡ decimal v)
parsed_port text v r e parsed some plus zero =
    let p = OkIff-at_ok r _ _ v (parse_plain own 16 text r parsed plus) e in
    let back : decimal (digits_value 10 text) ≡ text = decimal-digits_value own text p.0.0 p.0.1 (λ z. absurd (zero z)) (omega (arith, p.0.2)) in
    let is : text ≡ decimal v = sym back ∙ ap decimal (sym p.1) in
    ⊎_elim
    (λ none. absurd (zero (ap (λ t. get_or t 0 0) (is ∙ (ap decimal none ∙ decimal_digit 0 (omega arith))))))
    (λ more. (omega arith, omega (arith, p.0.2, p.1), is))
    (cases_eq v 0)

pub port_is : (text : List ℕ) (n : ℕ) → 1 ≤ n → n ≤ 65535 → text ≡ decimal n → is_port text ≡ true
port_is text n low high is =
    let value : digits_value 10 text ≡ n = ap (digits_value 10) is ∙ digits_value-decimal own n (omega arith) in
    let same : bytes_eq text (decimal (digits_value 10 text)) ≡ true = (bytes_eq-Decides text (decimal (digits_value 10 text))).1 (is ∙ ap decimal (sym value)) in
    let least : nat_le 1 (digits_value 10 text) ≡ true = rw value (le-leb 1 n low) in
    let most : nat_le (digits_value 10 text) 65535 ≡ true = rw value (le-leb n 65535 high) in
    rw (least, most, same)

pub port_is_not : (text : List ℕ) → ((n : ℕ) → 1 ≤ n → n ≤ 65535 → text ≡ decimal n → ⊥) → is_port text ≡ false
port_is_not text none =
    let value = digits_value 10 text in
    ⊎_elim
    (λ is.
    let parts = and_parts (nat_le 1 value && nat_le value 65535) (bytes_eq text (decimal value)) is in
    let bounds = and_parts (nat_le 1 value) (nat_le value 65535) parts.0 in
    absurd (none value (leb-true _ _ bounds.0) (leb-true _ _ bounds.1) ((bytes_eq-Decides text (decimal value)).0 parts.1)))
    (λ other. other)
    (cases_Bool (is_port text))
