use Rattle.seed_list.specs.Bad.{IsRefused, IsRefusedSeed}
use Rattle.seed_list.proofs.BadLines.{one_number}
use Rattle.seed_list.proofs.laws.a_bad_line_has_one_number.Goals as goal

pub returns-clause-listed : goal.returns-clause-listed
returns-clause-listed c = one_number IsRefused

pub returns-clause-added : goal.returns-clause-added
returns-clause-added c = one_number IsRefusedSeed
