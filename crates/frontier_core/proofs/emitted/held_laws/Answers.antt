use Rattle.frontier_core.proofs.Held.{held_stays}
use Rattle.frontier_core.proofs.emitted.held_laws.Goals as goal

pub returns : goal.returns
returns c = record { stays = held_stays }
