-- Character references in values of attributes (HTML Standard §13.5), in a profile: `&amp;`, `&lt;`, `&gt;`, `&quot;` and
-- those by number.
--     decoded value      the value with each replaced, once, from the left
use Rattle.std.specs.Prelude.{ℕ, ◌+◌, ◌*◌, Bool, ◌&&◌, ◌||◌, nat_eq, nat_lt, if◌then◌else◌, List, take, drop, codes, fold, encode_utf8, option_map, Option, Some, None}
use Rattle.std.specs.List.{prefix_len, starts_with}
use Rattle.std.specs.Char.{digit_value, is_digit}
use Rattle.link_spec.specs.Cut.{Piece, moved, given}

-- a Unicode scalar value: no surrogate, and none past the last
abbrev pub is_character : ℕ → Bool
is_character n = nat_lt n 0xD800 || (nat_lt 0xDFFF n && nat_lt n 0x110000)

-- the number that digits write to a base
abbrev pub number : ℕ → List ℕ → ℕ
number base digits = fold (λ n d. base * n + digit_value d) 0 digits

-- a character by its number: n digits and `;`
abbrev pub numbered : ℕ → ℕ → List ℕ → Option (Piece ℕ)
numbered code n text =
    if nat_lt 0 n && starts_with nat_eq (drop n text) (codes ";") && is_character code
    then Some (record { size = n + 1; gives = code })
    else None

-- n digits to a base
abbrev pub numbered_by : ℕ → List ℕ → Option (Piece ℕ)
numbered_by base text =
    let n = prefix_len (λ b. is_digit b base) text in
    numbered (number base (take n text)) n text

-- the character that is named behind `&`
abbrev pub character_named : List ℕ → Option (Piece ℕ)
character_named text =
    if starts_with nat_eq text (codes "amp;")
    then Some (record { size = 4; gives = 38 })
    else if starts_with nat_eq text (codes "lt;")
    then Some (record { size = 3; gives = 60 })
    else if starts_with nat_eq text (codes "gt;")
    then Some (record { size = 3; gives = 62 })
    else if starts_with nat_eq text (codes "quot;")
    then Some (record { size = 5; gives = 34 })
    else if starts_with nat_eq text (codes "#x")
    then option_map (moved 2) (numbered_by 16 (drop 2 text))
    else if starts_with nat_eq text (codes "#")
    then option_map (moved 1) (numbered_by 10 (drop 1 text))
    else None

-- the reference at the front of a text, and its character. It unfolds only where a proof asks for it.
unfoldable pub entity : List ℕ → Option (Piece ℕ)
entity text = if starts_with nat_eq text (codes "&") then option_map (moved 1) (character_named (drop 1 text)) else None

-- what is there, or else the first byte as it is
abbrev pub or_byte : List ℕ → Option (Piece ℕ) → Piece (List ℕ)
or_byte text None = record { size = 1; gives = take 1 text }
or_byte text (Some p) = record { size = p.size; gives = encode_utf8 p.gives }

abbrev pub entity_or_byte : List ℕ → Option (Piece (List ℕ))
entity_or_byte text = Some (or_byte text (entity text))

-- what is replaced is not read again
abbrev pub decoded : List ℕ → List ℕ
decoded value = given entity_or_byte value
