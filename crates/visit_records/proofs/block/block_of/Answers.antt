use Rattle.visit_records.proofs.Turns.{turn_short, turn_some, turn_valid}
use Rattle.visit_records.proofs.block.block_of.Goals as goal

pub block-requires-clause-some : goal.block-requires-clause-some
block-requires-clause-some c = turn_some c.args.events.now c.requires

pub block-requires-clause-valid : goal.block-requires-clause-valid
block-requires-clause-valid c = turn_valid c.args.events.now c.requires

pub block-requires-clause-short : goal.block-requires-clause-short
block-requires-clause-short c = turn_short c.valid_is_short.ensures c.args.events.now c.requires
