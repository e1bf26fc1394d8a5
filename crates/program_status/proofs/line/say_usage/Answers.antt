use Rattle.std.proofs.Common.{List, ℕ, ◌++◌, ◌∙◌, subst}
use Rattle.std.specs.Prelude.{codes}
use Rattle.program_status.specs.Gains.{Says}
use Rattle.program_status.proofs.line.say_usage.Goals as goal

pub returns : goal.returns
returns g c =
    subst (λ (d : List ℕ). Says g.W.Sink c.args.out.now c.write_pieces.new.out (codes "usage: word " ++ d ++ codes "\n") c.write_pieces.result)
    (c.as_bytes-digits.ensures.value ∙ c.format.ensures.text) c.write_pieces.ensures
