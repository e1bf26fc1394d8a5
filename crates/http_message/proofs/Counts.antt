-- Decimal numbers of at most 18 digits.
use Rattle.std.proofs.Common.{◌≡◌, ℕ, zero, suc, ◌+◌, ◌-◌, ◌*◌, ◌^◌, ◌<◌, ◌≤◌, true, List, [], ◌∷◌, length, get_or, take, ap, ◌∙◌, arith, ◌&&◌}
use Rattle.std.specs.Prelude.{nat_le}
use Rattle.std.specs.Char.{digit_value, is_ascii_digit}
use Rattle.std.specs.Int.{IsInRange}
use Rattle.std.specs.List.{list_all}
use Rattle.std.specs.Str.Parse.{AllDigits, digits_value}
use Rattle.std.proofs.Math.Nat.{pow-le-pow_right}
use Rattle.std.proofs.lemmas.Bool.{and_parts}
use Rattle.std.proofs.lemmas.Bool.Decides.{nat_tests}
use Rattle.std.proofs.lemmas.Int.Digits.{digits_value-lt, digits_value_push}
use Rattle.std.proofs.lemmas.List.{take_more, length-take}
use Rattle.std.proofs.lemmas.List.Sums.{AllPass-from_list_all}
use Rattle.std.proofs.lemmas.Str.{digit_value_digit}
use Rattle.page_spec.specs.Fields.{is_count}

in_range : (c : ℕ) → is_ascii_digit c ≡ true → IsInRange 48 57 c
in_range c digit = grind (arith, nat_tests)

digit_small : (c : ℕ) → is_ascii_digit c ≡ true → digit_value c < 10
digit_small c digit = let r = in_range c digit in let v = digit_value_digit c r in omega (arith, r.0, r.1, v)

all_digits : (i : ℕ) (xs : List ℕ) → list_all is_ascii_digit xs ≡ true → AllDigits 10 (take i xs)
all_digits zero xs all = tt
all_digits (suc i) [] all = tt
all_digits (suc i) (x ∷ xs) all =
    let both = and_parts (is_ascii_digit x) (list_all is_ascii_digit xs) all in
    (digit_small x both.0, all_digits i xs both.1)

digits_of : (xs : List ℕ) → is_count xs ≡ true → (list_all is_ascii_digit xs ≡ true) × (length xs ≤ 18)
digits_of xs count =
    let outer = and_parts (nat_le 1 (length xs)) (nat_le (length xs) 18 && list_all is_ascii_digit xs) count in
    let inner = and_parts (nat_le (length xs) 18) (list_all is_ascii_digit xs) outer.1 in
    (inner.1, grind (arith, nat_tests, inner.0))

pub digit_there : (xs : List ℕ) (i : ℕ) → is_count xs ≡ true → i < length xs → IsInRange 48 57 (get_or xs i 0)
digit_there xs i count lt = in_range _ (AllPass-from_list_all is_ascii_digit xs (digits_of xs count).0 i 0 lt)

pub few_digits : (xs : List ℕ) (i : ℕ) → is_count xs ≡ true → i < length xs → digits_value 10 (take i xs) < 10 ^ 17
few_digits xs i count lt =
    let d = digits_of xs count in
    let below = digits_value-lt 10 (take i xs) (all_digits i xs d.0) in
    let len : length (take i xs) ≤ 17 = grind (arith, length-take, d.1) in
    let up : 10 ^ length (take i xs) ≤ 10 ^ 17 = pow-le-pow_right (omega arith) len in
    omega (arith, below, up)

pub one_digit_more : (xs : List ℕ) (i : ℕ) → is_count xs ≡ true → i < length xs
    → digits_value 10 (take (i + 1) xs) ≡ digits_value 10 (take i xs) * 10 + (get_or xs i 0 - 48)
one_digit_more xs i count lt =
    let r = digit_there xs i count lt in
    let v = digit_value_digit (get_or xs i 0) r in
    let whole = ap (digits_value 10) (take_more xs i 0 lt) ∙ digits_value_push 10 (take i xs) (get_or xs i 0) in
    omega (arith, whole, v, r.0)
