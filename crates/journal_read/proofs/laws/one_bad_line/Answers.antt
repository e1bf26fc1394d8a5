use Rattle.journal_read.proofs.BadLines.{bad_is_none, one_bad}
use Rattle.journal_read.proofs.laws.one_bad_line.Goals as goal

pub returns-clause-none : goal.returns-clause-none
returns-clause-none c = bad_is_none

pub returns-clause-one : goal.returns-clause-one
returns-clause-one c = one_bad
