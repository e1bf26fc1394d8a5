-- Base32 (RFC 4648 §6) of whole groups of five bytes, and digests written in it.
--     base32 bytes      eight letters for each five bytes
--     digest_text bytes      `sha1:` and the base32 of the SHA-1 of the bytes
use Rattle.std.specs.Prelude.{ℕ, ◌/◌, ◌%◌, ◌^◌, List, [], ◌∷◌, ◌++◌, map, codes, slice_index}
use Rattle.std.specs.Int.{w64, from_be_bytes}
use Rattle.sha1.specs.Sha1.{sha1}

-- the letters that stand for 0 to 31
abbrev pub alphabet : List ℕ
alphabet = codes "ABCDEFGHIJKLMNOPQRSTUVWXYZ234567"

-- the letter of five bits, the lowest of a number
abbrev pub letter : ℕ → ℕ
letter number = slice_index alphabet (number % 32)

-- the letters of forty bits, from the highest five to the lowest
abbrev pub group_text : ℕ → List ℕ
group_text number = map (λ place. letter (number / 32 ^ place)) (7 ∷ 6 ∷ 5 ∷ 4 ∷ 3 ∷ 2 ∷ 1 ∷ 0 ∷ [])

-- the number of five bytes, the first the highest
abbrev pub group_number : ℕ → ℕ → ℕ → ℕ → ℕ → ℕ
group_number a b c d e = from_be_bytes w64 (0 ∷ 0 ∷ 0 ∷ a ∷ b ∷ c ∷ d ∷ e ∷ [])

-- eight letters for each five bytes; fewer than five at the end are not written
abbrev pub base32 : List ℕ → List ℕ
base32 (a ∷ b ∷ c ∷ d ∷ e ∷ bytes) = group_text (group_number a b c d e) ++ base32 bytes
base32 fewer = []

-- a digest: `sha1:` and the base32 of the SHA-1 (FIPS 180-4), which has 20 bytes
abbrev pub digest_text : List ℕ → List ℕ
digest_text bytes = codes "sha1:" ++ base32 (sha1 bytes)
