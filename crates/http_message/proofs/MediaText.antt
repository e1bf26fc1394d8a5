-- A media type in form is a text of visible bytes.
use Rattle.std.proofs.Common.{◌≡◌, ℕ, ◌+◌, ◌<◌, ◌≤◌, Bool, true, false, not, ◌&&◌, ◌==◌, List, [], ◌∷◌, length, get_or, All, None, refl, sym, subst, arith}
use Rattle.std.specs.Prelude.{nat_lt, nat_le, position, IsUtf8}
use Rattle.std.specs.List.{list_all, prefix_len, position_or_len, before_first, after_first}
use Rattle.std.proofs.lemmas.Bool.{and_parts}
use Rattle.std.proofs.lemmas.Bool.Decides.{nat_tests}
use Rattle.std.proofs.lemmas.List.{length-drop}
use Rattle.std.proofs.lemmas.List.Sums.{passes_at_first, split_at_first}
use Rattle.std.proofs.lemmas.List.Elements.{All-append, All-cons, All-head, All-tail, All-weaker}
use Rattle.std.proofs.lemmas.Str.{IsUtf8-from_ascii}
use Rattle.std.proofs.lemmas.Str.Ascii.{IsAscii-from_all}
use Rattle.url.specs.Ascii.{slash}
use Rattle.url.proofs.InputLemmas.{Passes, All_from_list_all}
use Rattle.httparse.specs.Grammar.{is_token, is_token_byte}
use Rattle.crawl_kinds.specs.Text.{is_visible, text_fault}
use Rattle.page_spec.specs.Fields.{is_media}

abbrev V : ℕ → Type 0
V = Passes is_visible

token_visible : (b : ℕ) → is_token_byte b ≡ true → is_visible b ≡ true
unfolding is_token_byte
token_visible b token = grind (arith, nat_tests)

slash_visible : (b : ℕ) → (b == slash) ≡ true → is_visible b ≡ true
slash_visible b here = grind (arith, nat_tests)

tokens_visible : (xs : List ℕ) → list_all is_token_byte xs ≡ true → All V xs
tokens_visible xs all = All-weaker (Passes is_token_byte) V token_visible xs (All_from_list_all is_token_byte xs all)

abbrev is_slash : ℕ → Bool
is_slash b = b == slash

parts_visible : (xs : List ℕ) → list_all is_token_byte (before_first is_slash xs) ≡ true
    → list_all is_token_byte (after_first is_slash xs) ≡ true → position_or_len is_slash xs < length xs → All V xs
parts_visible xs before after there =
    let cut = split_at_first is_slash xs 0 there in
    let mark = slash_visible _ (passes_at_first is_slash xs 0 there) in
    let tail : All V (get_or xs (position_or_len is_slash xs) 0 ∷ after_first is_slash xs) =
    All-cons V _ (after_first is_slash xs) mark (tokens_visible _ after) in
    subst (All V) (sym cut) (All-append V _ _ (tokens_visible _ before) tail)

pub media_visible : (xs : List ℕ) → is_media xs ≡ true → All V xs × (length xs ≤ 100)
media_visible xs media =
    let front = before_first is_slash xs in
    let back = after_first is_slash xs in
    let one = and_parts (is_token front) (is_token back && nat_le (length xs) 100) media in
    let two = and_parts (is_token back) (nat_le (length xs) 100) one.1 in
    let first = and_parts (nat_lt 0 (length front)) (list_all is_token_byte front) one.0 in
    let second = and_parts (nat_lt 0 (length back)) (list_all is_token_byte back) two.0 in
    let some : 0 < length back = grind (arith, nat_tests, second.0) in
    let there : position_or_len is_slash xs < length xs = omega (arith, some, length-drop (position_or_len is_slash xs + 1) xs) in
    (parts_visible xs first.1 second.1 there, grind (arith, nat_tests, two.1))

prefix_of_all : (xs : List ℕ) → All V xs → prefix_len (λ b. not (not (is_visible b))) xs ≡ length xs
prefix_of_all [] all = refl
prefix_of_all (x ∷ xs) all =
    let rest = prefix_of_all xs (All-tail V x xs all) in
    let here : is_visible x ≡ true = All-head V x xs all in
    rw here (omega (arith, rest))

-- such a text has no fault
pub media_fits : (xs : List ℕ) → is_media xs ≡ true → text_fault is_visible 100 xs ≡ None
media_fits xs media =
    let both = media_visible xs media in
    let len = prefix_of_all xs both.0 in
    let none : position (λ b. not (is_visible b)) xs ≡ None = rw len (grind (arith, nat_tests)) in
    let short : nat_lt 100 (length xs) ≡ false = grind (arith, nat_tests, both.1) in
    rw (short, none) refl

visible_ascii : (b : ℕ) → is_visible b ≡ true → b < 128
visible_ascii b here = grind (arith, nat_tests)

-- and is UTF-8
pub media_utf8 : (xs : List ℕ) → is_media xs ≡ true → IsUtf8 xs
media_utf8 xs media = IsUtf8-from_ascii xs (IsAscii-from_all xs (All-weaker V (λ b. b < 128) visible_ascii xs (media_visible xs media).0))
