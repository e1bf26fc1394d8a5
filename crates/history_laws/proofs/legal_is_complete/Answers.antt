use Rattle.history_laws.proofs.Completeness.{legal-complete, complete-from}
use Rattle.history_laws.proofs.legal_is_complete.Goals as goal

pub returns : goal.returns
returns c = record { complete = legal-complete; from_snapshot = complete-from }
