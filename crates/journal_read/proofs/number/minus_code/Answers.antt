-- No code below 0 is 0 behind its minus.
use Rattle.std.proofs.Common.{◌≡◌, ◌∙◌, ap, arith}
use Rattle.std.specs.Prelude.{decimal}
use Rattle.journal_read.proofs.Codes.{no_minus_zero}
use Rattle.journal_read.proofs.number.minus_code.Goals as goal

pub returns-in-Some-eq0 : goal.returns-in-Some-eq0
returns-in-Some-eq0 c =
    let zero : c.in-Some-eq0.field-0 ≡ 0 = omega arith in
    no_minus_zero c.args.text.now (c.in-Some-eq0.ensures.0 ∙ ap decimal zero)
