use Rattle.std.proofs.Common.{◌<◌, length, arith, ap}
use Rattle.job_order.proofs.Kept.{no_fault}
use Rattle.job_order.proofs.rule.free_text.Goals as goal

pub unreachable-requires-in-Err-BadByte : goal.unreachable-requires-in-Err-BadByte
unreachable-requires-in-Err-BadByte c =
    let fits = c.as_bytes-bytes.type_inv in
    let same = c.as_bytes-bytes.ensures in
    let short : length c.args.text.now < 18446744073709551616 = omega (arith, ap length same.value) in
    let memory = c.in-Err-BadByte.ensures.memory (no_fault c.args.text.now short) in
    let kind = c.in-Err-BadByte.field-0-is in
    cc
