use Rattle.finish_laws.proofs.Bridge.{bridge}
use Rattle.finish_laws.proofs.processed_may_end.Goals as goal

pub returns : goal.returns
returns c = bridge c.valid_is_computed.ensures
