use Rattle.std.proofs.Common.{arith}
use Rattle.turn_client.proofs.Tallies.{begins}
use Rattle.turn_client.proofs.tally.Tally.new.Goals as goal

pub new-requires-clause-rule : goal.new-requires-clause-rule
new-requires-clause-rule c = let fits = c.ranges.total.fits in begins c.args.total (omega arith)
