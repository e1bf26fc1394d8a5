-- A digest's text is visible.
use Rattle.std.proofs.Common.{◌≡◌, ℕ, zero, suc, ◌+◌, ◌-◌, ◌*◌, ◌/◌, ◌%◌, ◌^◌, ◌<◌, ◌≤◌, Bool, true, false, not, ◌&&◌, cond, Some, None, List, [], ◌∷◌, ◌++◌, length, length-append, map, get_or, refl, ◌∙◌, ap, arith, nat_lt}
use Rattle.std.specs.Prelude.{codes, position, if◌then◌else◌, option_map}
use Rattle.std.specs.List.{list_all, prefix_len}
use Rattle.std.specs.Str.{IsUtf8}
use Rattle.std.proofs.lemmas.Bool.{and_parts}
use Rattle.std.proofs.lemmas.Bool.Decides.{nat_tests}
use Rattle.std.proofs.lemmas.List.Folds.{list_all-append}
use Rattle.std.proofs.lemmas.Str.{IsUtf8-from_ascii}
use Rattle.crawl_kinds.specs.Text.{is_visible, text_fault}
use Rattle.crawl_kinds.specs.declared.text.TextFault.TheVariants.{TooLong, BadByte}
use Rattle.record_spec.specs.Base32.{alphabet, letter, group_text, group_number, base32}

visible_small : (b : ℕ) → is_visible b ≡ true → b < 128
visible_small b h = grind (arith, nat_tests)

and_both : (a b : Bool) → a ≡ true → b ≡ true → (a && b) ≡ true
and_both a b ea eb = ap (λ (t : Bool). t && b) ea ∙ eb

-- an element of visible bytes is visible
visible_at : (xs : List ℕ) → list_all is_visible xs ≡ true → (i : ℕ) → i < length xs → is_visible (get_or xs i 0) ≡ true
visible_at [] h i inside = absurd (omega arith)
visible_at (x ∷ xs) h zero inside = (and_parts (is_visible x) (list_all is_visible xs) h).0
visible_at (x ∷ xs) h (suc i) inside = visible_at xs (and_parts (is_visible x) (list_all is_visible xs) h).1 i (omega arith)

letter_visible : (number : ℕ) → is_visible (letter number) ≡ true
letter_visible number = visible_at alphabet refl (number % 32) (omega arith)

letters_visible : (number : ℕ) (places : List ℕ) → list_all is_visible (map (λ place. letter (number / 32 ^ place)) places) ≡ true
letters_visible number [] = refl
letters_visible number (place ∷ places) =
    and_both (is_visible (letter (number / 32 ^ place))) (list_all is_visible (map (λ place. letter (number / 32 ^ place)) places))
    (letter_visible (number / 32 ^ place)) (letters_visible number places)

group_visible : (number : ℕ) → list_all is_visible (group_text number) ≡ true
group_visible number = letters_visible number (7 ∷ 6 ∷ 5 ∷ 4 ∷ 3 ∷ 2 ∷ 1 ∷ 0 ∷ [])

base32_visible : (bytes : List ℕ) → list_all is_visible (base32 bytes) ≡ true
base32_visible (a ∷ b ∷ c ∷ d ∷ e ∷ others) =
    list_all-append is_visible (group_text (group_number a b c d e)) (base32 others)
    ∙ and_both (list_all is_visible (group_text (group_number a b c d e))) (list_all is_visible (base32 others)) (group_visible (group_number a b c d e)) (base32_visible others)
base32_visible [] = refl
base32_visible (a ∷ []) = refl
base32_visible (a ∷ b ∷ []) = refl
base32_visible (a ∷ b ∷ c ∷ []) = refl
base32_visible (a ∷ b ∷ c ∷ d ∷ []) = refl

-- eight letters for each five bytes
length-base32 : (bytes : List ℕ) → length (base32 bytes) * 5 ≤ length bytes * 8
length-base32 (a ∷ b ∷ c ∷ d ∷ e ∷ others) = omega (arith, length-base32 others)
length-base32 [] = omega arith
length-base32 (a ∷ []) = omega arith
length-base32 (a ∷ b ∷ []) = omega arith
length-base32 (a ∷ b ∷ c ∷ []) = omega arith
length-base32 (a ∷ b ∷ c ∷ d ∷ []) = omega arith

-- exactly eight, where nothing is left over
length-base32-groups : (bytes : List ℕ) (groups : ℕ) → length bytes ≡ 5 * groups → length (base32 bytes) ≡ 8 * groups
length-base32-groups (a ∷ b ∷ c ∷ d ∷ e ∷ others) groups h = omega (arith, length-base32-groups others (groups - 1) (omega arith))
length-base32-groups [] groups h = omega arith
length-base32-groups (a ∷ []) groups h = absurd (omega arith)
length-base32-groups (a ∷ b ∷ []) groups h = absurd (omega arith)
length-base32-groups (a ∷ b ∷ c ∷ []) groups h = absurd (omega arith)
length-base32-groups (a ∷ b ∷ c ∷ d ∷ []) groups h = absurd (omega arith)

-- twenty bytes make a digest of 37
pub length-marked : (bytes : List ℕ) → length bytes ≡ 20 → length (codes "sha1:" ++ base32 bytes) ≡ 37
length-marked bytes h = omega (arith, length-base32-groups bytes 4 (omega arith), length-append (codes "sha1:") (base32 bytes))

prefix_all : (xs : List ℕ) → list_all is_visible xs ≡ true → prefix_len (λ b. not (not (is_visible b))) xs ≡ length xs
prefix_all [] h = refl
prefix_all (x ∷ xs) h =
    let parts = and_parts (is_visible x) (list_all is_visible xs) h in
    ap (λ (t : Bool). cond (not (not t)) (1 + prefix_len (λ b. not (not (is_visible b))) xs) 0) parts.0 ∙ omega (arith, prefix_all xs parts.1)

not_below : (m n : ℕ) → n ≤ m → nat_lt m n ≡ false
not_below m n h = grind (arith, nat_tests)

position_none : (xs : List ℕ) → list_all is_visible xs ≡ true → position (λ b. not (is_visible b)) xs ≡ None
position_none xs h =
    ap (λ (n : ℕ). cond (nat_lt n (length xs)) (Some n) None) (prefix_all xs h)
    ∙ ap (λ (t : Bool). cond t (Some (length xs)) None) (not_below (length xs) (length xs) (omega arith))

small_at : (xs : List ℕ) → list_all is_visible xs ≡ true → (i : ℕ) → get_or xs i 0 < 128
small_at [] h i = omega arith
small_at (x ∷ xs) h zero = visible_small x (and_parts (is_visible x) (list_all is_visible xs) h).0
small_at (x ∷ xs) h (suc i) = small_at xs (and_parts (is_visible x) (list_all is_visible xs) h).1 i

-- visible bytes, not too many, are a text
visible_fits : (most : ℕ) (xs : List ℕ) → list_all is_visible xs ≡ true → length xs ≤ most → text_fault is_visible most xs ≡ None
visible_fits most xs h le =
    ap (λ (t : Bool). if t then Some (TooLong (length xs)) else option_map BadByte (position (λ b. not (is_visible b)) xs)) (not_below most (length xs) le)
    ∙ ap (option_map BadByte) (position_none xs h)

-- `sha1:` and base32
marked_visible : (bytes : List ℕ) → list_all is_visible (codes "sha1:" ++ base32 bytes) ≡ true
marked_visible bytes =
    list_all-append is_visible (codes "sha1:") (base32 bytes) ∙ and_both true (list_all is_visible (base32 bytes)) refl (base32_visible bytes)

pub marked_utf8 : (bytes : List ℕ) → IsUtf8 (codes "sha1:" ++ base32 bytes)
marked_utf8 bytes = IsUtf8-from_ascii (codes "sha1:" ++ base32 bytes) (small_at (codes "sha1:" ++ base32 bytes) (marked_visible bytes))

pub marked_fits : (bytes : List ℕ) → length bytes ≤ 20 → text_fault is_visible 37 (codes "sha1:" ++ base32 bytes) ≡ None
marked_fits bytes h = visible_fits 37 (codes "sha1:" ++ base32 bytes) (marked_visible bytes) (omega (arith, length-base32 bytes))
