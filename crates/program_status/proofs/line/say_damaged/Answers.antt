use Rattle.std.proofs.Common.{List, ℕ, ◌++◌, ◌∙◌, ap, sym, subst, append-nil}
use Rattle.std.specs.Prelude.{codes}
use Rattle.std.specs.Fmt.{decimal}
use Rattle.program_status.specs.Gains.{Says}
use Rattle.program_status.specs.Status.{file_name, five_digits}
use Rattle.program_status.proofs.Lines.{checkpoint_name}
use Rattle.program_status.proofs.line.say_damaged.Goals as goal

pub returns-in-Checkpoint : goal.returns-in-Checkpoint
returns-in-Checkpoint g c =
    subst (λ (t : List ℕ). Says g.W.Sink c.args.out.now c.say_numbered-in-Checkpoint.new.out (codes "damaged: " ++ t ++ codes " at " ++ decimal c.args.at ++ codes "\n") c.say_numbered-in-Checkpoint.result)
    (ap (λ (t : List ℕ). codes "checkpoint." ++ t) (append-nil (five_digits c.in-Checkpoint.number)) ∙ sym (checkpoint_name c.in-Checkpoint.number) ∙ sym (ap file_name c.in-Checkpoint.is))
    c.say_numbered-in-Checkpoint.ensures
