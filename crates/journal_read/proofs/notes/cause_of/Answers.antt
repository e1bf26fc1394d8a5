-- A note on a cause is one of three texts.
use Rattle.std.proofs.Common.{refl}
use Rattle.std.specs.Fmt.{digits}
use Rattle.journal_read.proofs.Noted.{cause_texts}
use Rattle.journal_read.proofs.notes.cause_of.Goals as goal

pub returns-then-is_same : goal.returns-then-is_same
unfolding digits
returns-then-is_same c = (c.if-is_same.ensures, refl)

pub returns-then-is_same-2 : goal.returns-then-is_same-2
unfolding digits
returns-then-is_same-2 c = (c.if-is_same-2.ensures, refl)

pub returns-then-is_same-3 : goal.returns-then-is_same-3
unfolding digits
returns-then-is_same-3 c = (c.if-is_same-3.ensures, refl)

pub returns : goal.returns
returns c x is = cause_texts c.args.note.now c.if-is_same.ensures c.if-is_same-2.ensures c.if-is_same-3.ensures x is.0 is.1
