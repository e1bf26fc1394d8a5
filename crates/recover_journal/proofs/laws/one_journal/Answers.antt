use Rattle.recover_journal.proofs.BlockLists.{events_valid, events_gated}
use Rattle.recover_journal.proofs.OneFile.{holds_one, damage_none, damage_one}
use Rattle.recover_journal.proofs.laws.one_journal.Goals as goal

pub returns-clause-one : goal.returns-clause-one
returns-clause-one c = holds_one c.one_reading.ensures.one c.one_text_one_list.ensures

pub returns-clause-valid : goal.returns-clause-valid
returns-clause-valid c = λ events gates file holds. (events_valid holds.blocks events gates holds.lines, events_gated holds.blocks events gates holds.lines)

pub returns-clause-damaged : goal.returns-clause-damaged
returns-clause-damaged c = damage_none c.one_reading.ensures.one c.one_reading.ensures.damaged

pub returns-clause-place : goal.returns-clause-place
returns-clause-place c = damage_one c.one_reading.ensures.one c.one_reading.ensures.damaged c.one_reading.ensures.place
