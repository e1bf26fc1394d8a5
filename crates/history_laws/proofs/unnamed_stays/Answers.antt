use Rattle.history_laws.proofs.Staying.{place_of-unnamed, queue-unnamed}
use Rattle.history_laws.proofs.unnamed_stays.Goals as goal

pub returns : goal.returns
returns c = record { place = place_of-unnamed; queues = queue-unnamed }
