use Rattle.std.proofs.Common.{arith}
use Rattle.frontier_core.proofs.Limits.{is_met_saturated}
use Rattle.frontier_core.proofs.choosing.is_met.Goals as goal

pub returns : goal.returns
returns c n is = is_met_saturated c.args.limit c.args.count n c.if-limit-eq0.false (omega arith) is
