use Rattle.std.proofs.Common.{◌≡◌, List, ℕ, ◌-◌, ◌++◌, ◌∙◌, ap, min, length, take, drop, subst}
use Rattle.std.specs.Prelude.{codes, replicate}
use Rattle.std.specs.Fmt.{decimal}
use Rattle.program_status.specs.Gains.{Says}
use Rattle.program_status.proofs.Lines.{five_zeros, zeros, grouped}
use Rattle.program_status.proofs.line.say_numbered.Goals as goal

pub returns : goal.returns
returns g c =
    let n = decimal c.args.number in
    let digits : c.as_bytes-digits.result.now ≡ n = c.as_bytes-digits.ensures.value ∙ c.format.ensures.text in
    let place : c.as_bytes-place.result.now ≡ decimal c.args.at = c.as_bytes-place.ensures.value ∙ c.format-2.ensures.text in
    let front : take (5 - c.min.result) (drop c.min.result five_zeros) ≡ replicate (5 - length n) 48 =
    ap (λ (k : ℕ). take (5 - k) (drop k five_zeros)) (c.min.ensures ∙ ap (λ (d : List ℕ). min (length d) 5) digits) ∙ zeros (length n) in
    subst (λ (t : List ℕ). Says g.W.Sink c.args.out.now c.write_pieces.new.out (codes "damaged: " ++ t) c.write_pieces.result)
    (ap (λ (z : List ℕ). c.args.front.now ++ (z ++ (c.as_bytes-digits.result.now ++ (c.args.back.now ++ (codes " at " ++ (c.as_bytes-place.result.now ++ codes "\n")))))) front
    ∙ ap (λ (d : List ℕ). c.args.front.now ++ (replicate (5 - length n) 48 ++ (d ++ (c.args.back.now ++ (codes " at " ++ (c.as_bytes-place.result.now ++ codes "\n")))))) digits
    ∙ ap (λ (p : List ℕ). c.args.front.now ++ (replicate (5 - length n) 48 ++ (n ++ (c.args.back.now ++ (codes " at " ++ (p ++ codes "\n")))))) place
    ∙ grouped c.args.front.now (replicate (5 - length n) 48) n c.args.back.now (codes " at ") (decimal c.args.at) (codes "\n"))
    c.write_pieces.ensures
