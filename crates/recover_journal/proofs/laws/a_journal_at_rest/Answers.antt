use Rattle.recover_journal.proofs.Resting.{rests_holds, rests_settled, rests_last}
use Rattle.recover_journal.proofs.laws.a_journal_at_rest.Goals as goal

pub returns-clause-read : goal.returns-clause-read
returns-clause-read g c = rests_holds g.V.Volume

pub returns-clause-settled : goal.returns-clause-settled
returns-clause-settled g c = rests_settled g.V.Volume

pub returns-clause-lasts : goal.returns-clause-lasts
returns-clause-lasts g c = rests_last g.V.Volume
