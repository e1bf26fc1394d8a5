use Rattle.std.proofs.Common.{arith}
use Rattle.http_message.proofs.Counts.{digit_there, few_digits, one_digit_more}
use Rattle.http_message.proofs.fields.number.Goals as goal

pub overflow_mul-n : goal.overflow_mul-n
overflow_mul-n c = let few = few_digits c.args.text.now c.loop-b.b-index c.requires c.loop-b-test.true in
    omega (arith, few, c.loop-b.invariant)

pub overflow_add-n : goal.overflow_add-n
overflow_add-n c =
    let few = few_digits c.args.text.now c.loop-b.b-index c.requires c.loop-b-test.true in
    let digit = digit_there c.args.text.now c.loop-b.b-index c.requires c.loop-b-test.true in
    omega (arith, few, digit.0, digit.1, c.loop-b.invariant)

pub loop-b-preserved : goal.loop-b-preserved
loop-b-preserved c =
    let more = one_digit_more c.args.text.now c.loop-b.b-index c.requires c.loop-b-test.true in
    omega (arith, more, c.loop-b.invariant)
