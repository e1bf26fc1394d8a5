use Rattle.journal_read.proofs.Cells.{slice_cut, slice_whole, cells_whole}
use Rattle.journal_read.proofs.parts.cut.Goals as goal

pub returns-in-Some-clause-parts : goal.returns-in-Some-clause-parts
returns-in-Some-clause-parts c = slice_cut c.args.mark c.args.text.now c.in-Some.at (cc)

pub returns-in-Some-clause-whole : goal.returns-in-Some-clause-whole
returns-in-Some-clause-whole c = slice_whole c.args.mark c.args.text.now c.in-Some.at (cc)

pub returns-in-None-clause-parts : goal.returns-in-None-clause-parts
returns-in-None-clause-parts c = cells_whole c.args.mark c.args.text.now (cc)
