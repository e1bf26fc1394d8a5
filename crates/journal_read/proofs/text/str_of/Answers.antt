use Rattle.journal_read.proofs.Texts.{visible_is_utf8}
use Rattle.journal_read.proofs.text.str_of.Goals as goal

pub returns-in-Err : goal.returns-in-Err
returns-in-Err c = λ visible. c.in-Err.ensures.cases.0 (visible_is_utf8 c.args.bytes.now visible)
