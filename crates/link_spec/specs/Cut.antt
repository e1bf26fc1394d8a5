-- Texts that are cut into pieces from the front on.
--     IsCut at text ps      the text is these pieces, one behind the other
--     pieces at text      the one list of which this holds
--     before_where p text      how many bytes stand before the first place of a kind
--     sought at text      what is found from the left, the next one sought behind it
use Rattle.std.specs.Prelude.{◌≡◌, ℕ, ◌-◌, ◌+◌, suc, zero, Bool, if◌then◌else◌, List, [], ◌∷◌, length, drop, Option, Some, None}
use Rattle.std.specs.Option.{option_map_or}
use Rattle.std.specs.List.{flat_map}

-- a piece at the front of a text: how many bytes it takes, and what it gives. It takes one at least
pub record Piece (X : Type 0) : Type 0 where
  pub size : ℕ
  pub gives : X

-- what is left of the text behind a piece
abbrev pub behind : {X : Type 0} → Piece X → List ℕ → List ℕ
behind p text = drop (p.size - 1) (drop 1 text)

-- the piece at the front of a text, by a rule: none at the end
abbrev pub front : {X : Type 0} → (List ℕ → Option (Piece X)) → List ℕ → Option (Piece X)
front at [] = None
front at (b ∷ rest) = at (b ∷ rest)

-- the text is these pieces, one behind the other, and behind the last none begins
abbrev pub IsCut : {X : Type 0} → (List ℕ → Option (Piece X)) → List ℕ → List (Piece X) → Type 0
IsCut at text [] = front at text ≡ None
IsCut at text (p ∷ ps) = (front at text ≡ Some p) × IsCut at (behind p text) ps

-- n pieces at most
abbrev pub cut : {X : Type 0} → (List ℕ → Option (Piece X)) → ℕ → List ℕ → List (Piece X)
cut at zero text = []
cut at (suc n) text = option_map_or (λ p. p ∷ cut at n (behind p text)) (front at text) []

-- the pieces of the text, of which there are no more than bytes. It unfolds only where a proof asks for it.
unfoldable pub pieces : {X : Type 0} → (List ℕ → Option (Piece X)) → List ℕ → List (Piece X)
pieces at text = cut at (length text) text

-- what the pieces give, in order
abbrev pub given : {X : Type 0} → (List ℕ → Option (Piece (List X))) → List ℕ → List X
given at text = flat_map (λ p. p.gives) (pieces at text)

-- a piece that stands so many bytes further on
abbrev pub moved : {X : Type 0} → ℕ → Piece X → Piece X
moved n p = record { size = n + p.size; gives = p.gives }

-- what is found, or else one byte that is passed over
abbrev pub found_or_byte : {X : Type 0} → Option (Piece X) → Piece (List X)
found_or_byte None = record { size = 1; gives = [] }
found_or_byte (Some p) = record { size = p.size; gives = p.gives ∷ [] }

-- where nothing begins, one byte is passed over
abbrev pub passing : {X : Type 0} → (List ℕ → Option (Piece X)) → List ℕ → Option (Piece (List X))
passing at text = Some (found_or_byte (at text))

-- what is found from the left: the next one is sought behind it
abbrev pub sought : {X : Type 0} → (List ℕ → Option (Piece X)) → List ℕ → List X
sought at text = given (passing at) text

-- how many bytes stand before the first place at which what follows passes the test
abbrev pub before_where : (List ℕ → Bool) → List ℕ → ℕ
before_where p [] = 0
before_where p (b ∷ rest) = if p (b ∷ rest) then 0 else 1 + before_where p rest
