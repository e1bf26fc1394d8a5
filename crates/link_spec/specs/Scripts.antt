-- References of scripts: what stands in quotes and looks like an address. Scripts are not parsed.
--     string_refs text      the references, in order of place
use Rattle.std.specs.Prelude.{ℕ, ◌+◌, Bool, false, ◌&&◌, ◌||◌, ◌==◌, nat_le, nat_eq, not, if◌then◌else◌, List, [], ◌∷◌, length, drop, map, codes, take_while, Option, Some, None}
use Rattle.std.specs.List.{starts_with}
use Rattle.std.specs.Char.{is_ascii_alphanumeric}
use Rattle.link_spec.specs.Cut.{Piece, sought}
use Rattle.link_spec.specs.Words.{is_blank, is_quote, reference}
use Rattle.link_spec.specs.declared.reference.Ref.{Ref}

-- what may stand in such a string: no quote, backslash, blank or `<`
abbrev pub is_string_byte : ℕ → Bool
is_string_byte b = not (is_quote b || is_blank b || b == 92 || b == 60)

-- a letter or a digit stands at the front
abbrev pub begins_plainly : List ℕ → Bool
begins_plainly [] = false
begins_plainly (b ∷ rest) = is_ascii_alphanumeric b

-- a string has so many bytes at most, and two at least
abbrev pub most_string : ℕ
most_string = 2083

-- whole addresses, and paths from the root
abbrev pub looks_like_address : List ℕ → Bool
looks_like_address text =
    starts_with nat_eq text (codes "http://")
    || starts_with nat_eq text (codes "https://")
    || (starts_with nat_eq text (codes "/") && begins_plainly (drop 1 text))

-- the text is such a string: long enough and no longer than an address
abbrev pub is_address_string : List ℕ → Bool
is_address_string text = nat_le 2 (length text) && nat_le (length text) most_string && looks_like_address text

-- the string in quotes at the front of a text, which ends at the same quote. It unfolds only where a proof asks for it.
unfoldable pub string_use : List ℕ → Option (Piece (List ℕ))
string_use [] = None
string_use (q ∷ rest) =
    let inner = take_while is_string_byte rest in
    if is_quote q && starts_with nat_eq (drop (length inner) rest) (q ∷ []) && is_address_string inner
    then Some (record { size = length inner + 2; gives = inner })
    else None

-- the references of a script have the letter X, for what is guessed
abbrev pub string_refs : List ℕ → List Ref
string_refs text = map (reference 88) (sought string_use text)
