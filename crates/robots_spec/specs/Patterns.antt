-- Patterns and paths (RFC 9309 §2.2.2, §2.2.3).
--     normal bytes      what is compared in place of the bytes
--     Matches pattern path      the pattern matches the path
--     path_of uri      path and query of an address
use Rattle.std.specs.Prelude.{◌≡◌, ◌≢◌, ℕ, ◌+◌, ◌*◌, Bool, ◌&&◌, ◌||◌, ◌==◌, if◌then◌else◌, List, [], ◌∷◌, ◌++◌, length, drop, ⊤}
use Rattle.std.specs.Bool.{MatchBool}
use Rattle.std.specs.List.{position_or_len}
use Rattle.std.specs.Char.{digit_value, is_ascii_alphanumeric}
use Rattle.percent_encoding.specs.Percent.{is_escape, encode_byte, percent_encode_byte}
use Rattle.robots_spec.specs.Lines.{is_star, is_colon}

-- a letter, a digit, `-`, `.`, `_` or `~` (RFC 3986 §2.3)
abbrev pub is_unreserved : ℕ → Bool
is_unreserved b = is_ascii_alphanumeric b || b == 45 || b == 46 || b == 95 || b == 126

-- a triple of an unreserved octet is that octet; another has upper-case digits (RFC 9309 §2.2.2, RFC 3986 §2.1, §2.3)
abbrev pub octet_or_triple : ℕ → List ℕ
octet_or_triple b = if is_unreserved b then b ∷ [] else percent_encode_byte b

-- an octet past ASCII as its triple; another as it is
abbrev pub escaped_past_ascii : ℕ → List ℕ
escaped_past_ascii b = encode_byte (record { mask = 0 }) b

-- Octets are compared in one form (RFC 9309 §2.2.2). A `%` that begins no triple stays, as do reserved octets and their triples.
abbrev pub normal : List ℕ → List ℕ
normal [] = []
normal (b ∷ []) = escaped_past_ascii b
normal (b ∷ c ∷ []) = escaped_past_ascii b ++ escaped_past_ascii c
normal (b ∷ high ∷ low ∷ rest) =
    if is_escape b high low
    then octet_or_triple (16 * digit_value high + digit_value low) ++ normal rest
    else escaped_past_ascii b ++ normal (high ∷ low ∷ rest)

-- `$`
abbrev pub is_dollar : ℕ → Bool
is_dollar b = b == 36

-- the path begins with the octet, and what follows meets P
abbrev pub FollowedBy : ℕ → (List ℕ → Type 0) → List ℕ → Type 0
FollowedBy b P path = (rest : List ℕ) × (path ≡ b ∷ rest) × P rest

-- after some run of octets, what follows meets P
abbrev pub AfterRun : (List ℕ → Type 0) → List ℕ → Type 0
AfterRun P path = (run rest : List ℕ) × (path ≡ run ++ rest) × P rest

-- The octets of the pattern lie on those of the path from its front on: `*` on any run, a last `$` on the end,
-- any other on itself (§2.2.2, §2.2.3)
abbrev pub LiesOn : List ℕ → List ℕ → Type 0
LiesOn [] path = ⊤
LiesOn (b ∷ pattern) path =
    MatchBool (is_star b) (AfterRun (LiesOn pattern) path)
    (MatchBool (is_dollar b && length pattern == 0) (path ≡ []) (FollowedBy b (LiesOn pattern) path))

-- an empty pattern matches nothing (§2.2, empty-pattern)
abbrev pub Matches : List ℕ → List ℕ → Type 0
Matches pattern path = (pattern ≢ []) × LiesOn pattern path

-- `/`
abbrev pub is_slash : ℕ → Bool
is_slash b = b == 47

-- what stands behind `:` and the two octets after it, which are `//` (RFC 3986 §3)
abbrev pub behind_scheme : List ℕ → List ℕ
behind_scheme uri = drop 3 (drop (position_or_len is_colon uri) uri)

-- Path and query of an address, from the first `/` behind its authority on (RFC 3986 §3). It is stated over the bytes of any
-- text; in an address without fragment, as a crawl keeps it, that is all that follows the authority.
abbrev pub path_of : List ℕ → List ℕ
path_of uri = drop (position_or_len is_slash (behind_scheme uri)) (behind_scheme uri)

-- what an address asks of the rules
abbrev pub robots_path_of : List ℕ → List ℕ
robots_path_of uri = normal (path_of uri)
