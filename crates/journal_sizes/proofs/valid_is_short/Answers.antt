use Rattle.journal_sizes.proofs.Lines.{valid_short}
use Rattle.journal_sizes.proofs.valid_is_short.Goals as goal

pub returns : goal.returns
returns c = valid_short
