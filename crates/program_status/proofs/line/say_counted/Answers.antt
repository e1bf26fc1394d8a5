use Rattle.std.proofs.Common.{List, ℕ, ◌++◌, ◌∙◌, ap, sym, subst, append_assoc}
use Rattle.std.specs.Prelude.{codes}
use Rattle.std.specs.Fmt.{decimal}
use Rattle.program_status.specs.Gains.{Says}
use Rattle.program_status.proofs.line.say_counted.Goals as goal

pub returns : goal.returns
returns g c =
    subst (λ (t : List ℕ). Says g.W.Sink c.args.out.now c.write_pieces.new.out (codes "job refused: " ++ t) c.write_pieces.result)
    (ap (λ (d : List ℕ). c.args.fault.now ++ (d ++ codes "\n")) (c.as_bytes-digits.ensures.value ∙ c.format.ensures.text) ∙ sym (append_assoc c.args.fault.now (decimal c.args.number) (codes "\n")))
    c.write_pieces.ensures
