-- A code is a number, or a number that is not 0 behind a minus.
use Rattle.std.proofs.Common.{length, arith, sym}
use Rattle.std.proofs.lemmas.Bool.{eqb-true, eqb-false}
use Rattle.journal_read.specs.Lines.{IsPlainCode, IsMinusCode}
use Rattle.std.proofs.Common.{take, drop, ◌-◌}
use Rattle.journal_read.proofs.Answers.{finds_same}
use Rattle.journal_read.proofs.Codes.{IsCodeText, no_code_empty, plain_of, minus_of, code_of_plain, code_of_minus}
use Rattle.journal_read.proofs.number.code_of.Goals as goal

pub returns-then-is_empty : goal.returns-then-is_empty
returns-then-is_empty c = no_code_empty c.args.text.now (eqb-true _ _ (sym c.if-is_empty.ensures))

pub returns-then-text-ne45 : goal.returns-then-text-ne45
returns-then-text-ne45 c =
    let t = c.args.text.now in
    finds_same (IsPlainCode t) (IsCodeText t) c.plain_code.result (code_of_plain t) (plain_of t c.if-text-ne45.true) c.plain_code.ensures

pub returns : goal.returns
returns c =
    let t = c.args.text.now in
    finds_same (IsMinusCode (take (length t - 1) (drop 1 t))) (IsCodeText t) c.minus_code.result (code_of_minus t c.if-text-ne45.false (omega (arith, eqb-false _ _ (sym c.if-is_empty.ensures)))) (minus_of t c.if-text-ne45.false) c.minus_code.ensures
