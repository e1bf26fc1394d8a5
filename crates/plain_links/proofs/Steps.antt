-- One step of a reader that seeks from the left.
use Rattle.std.proofs.Common.{◌≡◌, ℕ, ◌<◌, List, [], ◌∷◌, ◌++◌, map, length, drop, sym, ◌∙◌, ap, append_assoc, append-nil, arith, Option, Some, None}
use Rattle.link_spec.specs.Cut.{Piece, passing, sought}
use Rattle.link_spec.specs.Words.{reference}
use Rattle.link_spec.specs.declared.reference.Ref.{Ref}
use Rattle.link_spec.proofs.Cuts.{sought-some, sought-none, given-end}

-- one more is found
pub one-more : (letter : ℕ) (rule : List ℕ → Option (Piece (List ℕ))) (refs all : List Ref) (rest : List ℕ) (p : Piece (List ℕ)) → 0 < length rest → 0 < p.size → Some p ≡ rule rest → refs ++ map (reference letter) (sought rule rest) ≡ all → (refs ++ reference letter p.gives ∷ []) ++ map (reference letter) (sought rule (drop p.size rest)) ≡ all
one-more letter rule refs all rest p some first e h =
    append_assoc refs (reference letter p.gives ∷ []) (map (reference letter) (sought rule (drop p.size rest)))
    ∙ ap (λ xs. refs ++ map (reference letter) xs) (sym (sought-some rule rest p some first (sym e)))
    ∙ h

-- a byte is passed over
pub none-here : (letter : ℕ) (rule : List ℕ → Option (Piece (List ℕ))) (refs all : List Ref) (rest : List ℕ) → 0 < length rest → None ≡ rule rest → refs ++ map (reference letter) (sought rule rest) ≡ all → refs ++ map (reference letter) (sought rule (drop 1 rest)) ≡ all
none-here letter rule refs all rest some e h =
    ap (λ xs. refs ++ map (reference letter) xs) (sym (sought-none rule rest some (sym e))) ∙ h

-- nothing is left
pub at-end : (letter : ℕ) (rule : List ℕ → Option (Piece (List ℕ))) (refs all : List Ref) (rest : List ℕ) → length rest ≡ 0 → refs ++ map (reference letter) (sought rule rest) ≡ all → refs ≡ all
at-end letter rule refs all [] e h =
    sym (ap (λ xs. refs ++ map (reference letter) xs) (given-end (passing rule)) ∙ append-nil refs) ∙ h
at-end letter rule refs all (b ∷ rest) e h = absurd (omega arith)
