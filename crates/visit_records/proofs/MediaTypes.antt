-- The media type of a response is one that a line of the journal can name.
use Rattle.std.proofs.Common.{◌≡◌, ℕ, zero, suc, Bool, true, false, not, ◌&&◌, ◌||◌, ◌==◌, List, [], ◌∷◌, length, take, drop, ◌+◌, refl, ◌∙◌, ap, arith}
use Rattle.std.specs.Prelude.{codes, nat_le, nat_lt, bytes_eq, if◌then◌else◌}
use Rattle.std.specs.Char.{to_ascii_lowercase}
use Rattle.std.specs.List.{list_all, before_first, after_first, position_or_len}
use Rattle.std.proofs.lemmas.Bool.{and_parts}
use Rattle.std.proofs.lemmas.Bool.Decides.{nat_tests}
use Rattle.httparse.specs.Grammar as http
use Rattle.url.specs.Input.{lowercase}
use Rattle.page_spec.specs.Fields.{Pair, is_media, media_part, media_in, media_of, values_of}
use Rattle.journal_valid.specs.Ends.{is_token_byte, is_token, is_pair, is_type, slash}

pub and_both : (a b : Bool) → a ≡ true → b ≡ true → (a && b) ≡ true
and_both a b ea eb = ap (λ (t : Bool). t && b) ea ∙ eb

-- no capital letter
is_low : ℕ → Bool
is_low b = not (nat_le 65 b && nat_le b 90)

lower_is_low : (b : ℕ) → is_low (to_ascii_lowercase b) ≡ true
unfolding is_low
lower_is_low b = grind (arith, nat_tests)

byte_of_token : (b : ℕ) → http.is_token_byte b ≡ true → is_low b ≡ true → is_token_byte b ≡ true
unfolding is_low http.is_token_byte
byte_of_token b token low = grind (arith, nat_tests)

lowercase_is_low : (xs : List ℕ) → list_all is_low (lowercase xs) ≡ true
lowercase_is_low [] = refl
lowercase_is_low (x ∷ xs) = and_both (is_low (to_ascii_lowercase x)) (list_all is_low (lowercase xs)) (lower_is_low x) (lowercase_is_low xs)

take_is_low : (n : ℕ) (xs : List ℕ) → list_all is_low xs ≡ true → list_all is_low (take n xs) ≡ true
take_is_low zero xs low = refl
take_is_low (suc n) [] low = refl
take_is_low (suc n) (x ∷ xs) low =
    let parts = and_parts (is_low x) (list_all is_low xs) low in
    and_both (is_low x) (list_all is_low (take n xs)) parts.0 (take_is_low n xs parts.1)

drop_is_low : (n : ℕ) (xs : List ℕ) → list_all is_low xs ≡ true → list_all is_low (drop n xs) ≡ true
drop_is_low zero xs low = low
drop_is_low (suc n) [] low = refl
drop_is_low (suc n) (x ∷ xs) low = drop_is_low n xs (and_parts (is_low x) (list_all is_low xs) low).1

bytes_of_token : (xs : List ℕ) → list_all http.is_token_byte xs ≡ true → list_all is_low xs ≡ true → list_all is_token_byte xs ≡ true
bytes_of_token [] tokens low = refl
bytes_of_token (x ∷ xs) tokens low =
    let one = and_parts (http.is_token_byte x) (list_all http.is_token_byte xs) tokens in
    let two = and_parts (is_low x) (list_all is_low xs) low in
    and_both (is_token_byte x) (list_all is_token_byte xs) (byte_of_token x one.0 two.0) (bytes_of_token xs one.1 two.1)

token_of : (xs : List ℕ) → http.is_token xs ≡ true → list_all is_low xs ≡ true → is_token xs ≡ true
token_of xs token low =
    let parts = and_parts (nat_lt 0 (length xs)) (list_all http.is_token_byte xs) token in
    let some : not (length xs == 0) ≡ true = grind (arith, nat_tests, parts.0) in
    and_both (not (length xs == 0)) (list_all is_token_byte xs) some (bytes_of_token xs parts.1 low)

abbrev is_slash : ℕ → Bool
is_slash b = b == slash

pair_of : (xs : List ℕ) → is_media xs ≡ true → list_all is_low xs ≡ true → is_pair xs ≡ true
pair_of xs media low =
    let front : List ℕ = before_first is_slash xs in
    let back : List ℕ = after_first is_slash xs in
    let one = and_parts (http.is_token front) (http.is_token back && nat_le (length xs) 100) media in
    let two = and_parts (http.is_token back) (nat_le (length xs) 100) one.1 in
    and_both (is_token front) (is_token back) (token_of front one.0 (take_is_low (position_or_len is_slash xs) xs low))
    (token_of back two.0 (drop_is_low (position_or_len is_slash xs + 1) xs low))

or_last : (a b c : Bool) → c ≡ true → (a || (b || c)) ≡ true
or_last true b c e = refl
or_last false true c e = refl
or_last false false c e = e

picked : (b : Bool) (x y : List ℕ) → (b ≡ true → is_type x ≡ true) → is_type y ≡ true → is_type (if b then x else y) ≡ true
picked true x y f g = f refl
picked false x y f g = g

media_in_typed : (values : List (List ℕ)) → is_type (media_in values) ≡ true
media_in_typed [] = refl
media_in_typed (value ∷ more) =
    picked (is_media (media_part value)) (media_part value) (codes "unknown")
    (λ is. or_last (bytes_eq (media_part value) (codes "unknown")) (bytes_eq (media_part value) (codes "no-type")) (is_pair (media_part value))
    (pair_of (media_part value) is (lowercase_is_low _)))
    refl

pub media_typed : (fields : List Pair) → is_type (media_of fields) ≡ true
media_typed fields = media_in_typed (values_of (codes "content-type") fields)
