-- A try number below 2 is not noted.
use Rattle.std.proofs.Common.{◌∙◌, ◌-◌, ap, take, drop, length, arith}
use Rattle.journal_read.proofs.Cells.{behind}
use Rattle.journal_read.proofs.Noted.{low_tries}
use Rattle.journal_read.proofs.notes.tries_of.Goals as goal

pub returns-then-tries-lt2 : goal.returns-then-tries-lt2
returns-then-tries-lt2 c x is =
    let note = c.args.note.now in
    low_tries (take (length note - 6) (drop 6 note)) c.in-Some.tries c.in-Some.ensures.0 c.if-tries-lt2.true (omega (arith, c.in-Some.ensures.1)) x (behind note 6 ∙ ap (drop 6) is.0) is.1
