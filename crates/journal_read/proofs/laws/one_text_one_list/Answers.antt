use Rattle.journal_read.proofs.EventLaws.{one_text}
use Rattle.journal_read.proofs.laws.one_text_one_list.Goals as goal

pub returns : goal.returns
returns c = one_text
