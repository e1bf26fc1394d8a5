-- The places of gates.
use Rattle.std.proofs.Common.{◌≡◌, ℕ, ◌+◌, List, [], ◌∷◌, ◌++◌, length, sym, ◌∙◌, ap, arith, add-zero, length-append}
use Rattle.std.proofs.lemmas.List.{map-append}
use Rattle.gate_log.specs.declared.block.Block.{Block}
use Rattle.gate_log.specs.Blocks.{blocks, framed}
use Rattle.gate_log.specs.Reading.{bodies_of, placed}
use Rattle.gate_log.proofs.Unique.{length-framed}

pub bodies_of-push : (list : List Block) (gate : ℕ) (body : List ℕ) → bodies_of (list ++ record { gate = gate; body = body } ∷ []) ≡ bodies_of list ++ body ∷ []
bodies_of-push list gate body = map-append (λ (b : Block). b.body) list (record { gate = gate; body = body } ∷ [])

pub placed-push : (at : ℕ) (bodies : List (List ℕ)) (body : List ℕ) → placed at (bodies ++ body ∷ []) ≡ placed at bodies ++ record { gate = at + length (blocks bodies); body = body } ∷ []
placed-push at [] body = ap (λ (g : ℕ). record { gate = g; body = body } ∷ []) (sym (add-zero at))
placed-push at (b ∷ bodies) body =
    let next : at + 10 + length b + length (blocks bodies) ≡ at + length (blocks (b ∷ bodies)) = omega (arith, length-append (framed b) (blocks bodies), length-framed b) in
    ap (λ (l : List Block). record { gate = at; body = b } ∷ l) (placed-push (at + 10 + length b) bodies body
    ∙ ap (λ (g : ℕ). placed (at + 10 + length b) bodies ++ record { gate = g; body = body } ∷ []) next)

-- one block more, with its gate behind those before it
pub bodies-push : (list pushed : List Block) (block : Block) (gate : ℕ) (body : List ℕ) → block ≡ record { gate = gate; body = body } → pushed ≡ list ++ block ∷ [] → bodies_of pushed ≡ bodies_of list ++ body ∷ []
bodies-push list pushed block gate body is pushed_is =
    ap bodies_of (pushed_is ∙ ap (λ (b : Block). list ++ b ∷ []) is) ∙ bodies_of-push list gate body

pub places-push : (list pushed : List Block) (block : Block) (gate : ℕ) (body : List ℕ) → block ≡ record { gate = gate; body = body } → pushed ≡ list ++ block ∷ [] → gate ≡ length (blocks (bodies_of list)) → list ≡ placed 0 (bodies_of list)
    → pushed ≡ placed 0 (bodies_of pushed)
places-push list pushed block gate body is pushed_is place places =
    let at : gate ≡ 0 + length (blocks (bodies_of list)) = omega (arith, place) in
    pushed_is ∙ ap (λ (b : Block). list ++ b ∷ []) is
    ∙ ap (λ (l : List Block). l ++ record { gate = gate; body = body } ∷ []) places
    ∙ ap (λ (g : ℕ). placed 0 (bodies_of list) ++ record { gate = g; body = body } ∷ []) at
    ∙ sym (placed-push 0 (bodies_of list) body)
    ∙ ap (placed 0) (sym (bodies-push list pushed block gate body is pushed_is))
