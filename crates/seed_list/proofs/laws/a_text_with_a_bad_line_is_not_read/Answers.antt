use Rattle.seed_list.specs.Bad.{IsRefused, IsRefusedSeed}
use Rattle.seed_list.proofs.BadLines.{good_has_none}
use Rattle.seed_list.proofs.laws.a_text_with_a_bad_line_is_not_read.Goals as goal

pub returns-clause-listed : goal.returns-clause-listed
returns-clause-listed c = good_has_none IsRefused

pub returns-clause-added : goal.returns-clause-added
returns-clause-added c = good_has_none IsRefusedSeed
