use Rattle.history_laws.proofs.Timely.{legal-polite, polite-from}
use Rattle.history_laws.proofs.legal_is_polite.Goals as goal

pub returns : goal.returns
returns c = record { polite = legal-polite; from_snapshot = polite-from }
