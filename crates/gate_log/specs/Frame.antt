-- A frame's bytes, and the body that they hold.
use Rattle.std.specs.Prelude.{◌≡◌, ℕ, ◌-◌, List, [], ◌∷◌, ◌++◌, length, take, drop}
use Rattle.gate_log.specs.Blocks.{framed, closed_gate, IsBody}

-- behind eight digits and LF, before the next gate
abbrev pub body_of : List ℕ → List ℕ
body_of bytes = take (length bytes - 10) (drop 9 bytes)

-- the digits, LF, a body and a closed gate
pub record IsFrame (bytes : List ℕ) : Type 0 where
  pub body : IsBody (body_of bytes)
  pub spelled : bytes ≡ framed (body_of bytes) ++ closed_gate ∷ []
