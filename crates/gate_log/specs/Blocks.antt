-- Gate logs: what the bytes of a whole file count.
--     framed body      what stands behind a block's gate
--     blocks bodies      blocks with open gates, one after another
--     Counts bodies file      a file counts these bodies
--     IsDamagedAt at file      a file has no reading, and this is the gate of its first bad block
use Rattle.std.specs.Prelude.{◌≡◌, ◌≢◌, ◌⊎◌, ℕ, zero, suc, ◌+◌, ◌/◌, ◌%◌, ◌≤◌, List, [], ◌∷◌, ◌++◌, length, nat_lt, if◌then◌else◌}
use Rattle.std.specs.List.{AllByRecursion}

-- `+`
abbrev pub open_gate : ℕ
open_gate = 43

-- `-`, though any byte but `+` is closed
abbrev pub closed_gate : ℕ
closed_gate = 45

-- LF
abbrev pub line_feed : ℕ
line_feed = 10

-- 0 to 9, a to f
abbrev pub hex_digit : ℕ → ℕ
hex_digit d = if nat_lt d 10 then d + 48 else d + 87

-- the last digits of a number, so many of them
unfoldable pub hex_digits : ℕ → ℕ → List ℕ
hex_digits zero n = []
hex_digits (suc count) n = hex_digits count (n / 16) ++ hex_digit (n % 16) ∷ []

-- behind a block's gate: eight digits of the length, LF, the body
unfoldable pub framed : List ℕ → List ℕ
framed body = hex_digits 8 (length body) ++ line_feed ∷ body

-- blocks with open gates
abbrev pub blocks : List (List ℕ) → List ℕ
blocks [] = []
blocks (body ∷ bodies) = open_gate ∷ framed body ++ blocks bodies

-- a body has 1 to 2,000,000,000 bytes
pub record IsBody (body : List ℕ) : Type 0 where
  pub not_empty : 1 ≤ length body
  pub no_longer : length body ≤ 2000000000

-- the open blocks of these bodies, and then a closed gate, whatever stands behind it
pub record EndsAfter (bodies : List (List ℕ)) (file : List ℕ) : Type 0 where
  pub gate : ℕ
  pub behind : List ℕ
  pub all : AllByRecursion IsBody bodies
  pub closed : gate ≢ open_gate
  pub spelled : file ≡ blocks bodies ++ gate ∷ behind

-- a file counts these bodies; one of 0 or 1 bytes counts none, whatever the byte
abbrev pub Counts : List (List ℕ) → List ℕ → Type 0
Counts bodies file = EndsAfter bodies file ⊎ ((bodies ≡ []) × (length file ≤ 1))

-- a file is damaged at this gate: it is open, and no whole block with the next gate stands there
pub record IsDamagedAt (at : ℕ) (file : List ℕ) : Type 0 where
  pub bodies : List (List ℕ)
  pub behind : List ℕ
  pub all : AllByRecursion IsBody bodies
  pub long : 2 ≤ length file
  pub spelled : file ≡ blocks bodies ++ open_gate ∷ behind
  pub place : at ≡ length (blocks bodies)
  pub no_block : (body : List ℕ) (gate : ℕ) (rest : List ℕ) → IsBody body → behind ≢ framed body ++ gate ∷ rest

-- the blocks and a closed gate, and nothing behind it
pub record EndsAt (bodies : List (List ℕ)) (file : List ℕ) : Type 0 where
  pub gate : ℕ
  pub all : AllByRecursion IsBody bodies
  pub closed : gate ≢ open_gate
  pub spelled : file ≡ blocks bodies ++ gate ∷ []

-- open blocks, and the gate that an append leaves closed
abbrev pub at_rest : List (List ℕ) → List ℕ
at_rest bodies = blocks bodies ++ closed_gate ∷ []
