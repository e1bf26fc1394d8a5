-- The digest of a payload is one that a line of the journal can name.
use Rattle.std.proofs.Common.{◌≡◌, ℕ, zero, suc, ◌/◌, ◌%◌, ◌^◌, ◌<◌, true, ◌==◌, List, [], ◌∷◌, length, map, get_or, refl, ◌∙◌, arith, eq-eqb}
use Rattle.std.specs.List.{list_all}
use Rattle.std.proofs.lemmas.Bool.{and_parts}
use Rattle.std.proofs.lemmas.List.Folds.{list_all-append}
use Rattle.sha1.specs.Sha1.{sha1}
use Rattle.record_spec.specs.Base32.{alphabet, letter, group_text, group_number, base32, digest_text}
use Rattle.journal_valid.specs.Ends.{is_base32, is_digest}
use Rattle.visit_records.proofs.MediaTypes.{and_both}

at_letter : (xs : List ℕ) → list_all is_base32 xs ≡ true → (i : ℕ) → i < length xs → is_base32 (get_or xs i 0) ≡ true
at_letter [] all i inside = absurd (omega arith)
at_letter (x ∷ xs) all zero inside = (and_parts (is_base32 x) (list_all is_base32 xs) all).0
at_letter (x ∷ xs) all (suc i) inside = at_letter xs (and_parts (is_base32 x) (list_all is_base32 xs) all).1 i (omega arith)

letter_in : (number : ℕ) → is_base32 (letter number) ≡ true
letter_in number = at_letter alphabet refl (number % 32) (omega arith)

letters_in : (number : ℕ) (places : List ℕ) → list_all is_base32 (map (λ place. letter (number / 32 ^ place)) places) ≡ true
letters_in number [] = refl
letters_in number (place ∷ places) =
    and_both (is_base32 (letter (number / 32 ^ place))) (list_all is_base32 (map (λ place. letter (number / 32 ^ place)) places))
    (letter_in (number / 32 ^ place)) (letters_in number places)

base32_in : (bytes : List ℕ) → list_all is_base32 (base32 bytes) ≡ true
base32_in (a ∷ b ∷ c ∷ d ∷ e ∷ others) =
    list_all-append is_base32 (group_text (group_number a b c d e)) (base32 others)
    ∙ and_both (list_all is_base32 (group_text (group_number a b c d e))) (list_all is_base32 (base32 others))
    (letters_in (group_number a b c d e) (7 ∷ 6 ∷ 5 ∷ 4 ∷ 3 ∷ 2 ∷ 1 ∷ 0 ∷ [])) (base32_in others)
base32_in [] = refl
base32_in (a ∷ []) = refl
base32_in (a ∷ b ∷ []) = refl
base32_in (a ∷ b ∷ c ∷ []) = refl
base32_in (a ∷ b ∷ c ∷ d ∷ []) = refl

-- 37 bytes of a digest are one
pub digest_is : (bytes : List ℕ) → length (digest_text bytes) ≡ 37 → is_digest (digest_text bytes) ≡ true
digest_is bytes long =
    and_both (length (digest_text bytes) == 37) (list_all is_base32 (base32 (sha1 bytes))) (eq-eqb (length (digest_text bytes)) 37 long) (base32_in (sha1 bytes))
