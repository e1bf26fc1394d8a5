use Rattle.journal_read.proofs.Cells.{place_found}
use Rattle.journal_read.proofs.parts.find.Goals as goal

pub returns : goal.returns
returns c = place_found c.args.mark c.args.text.now c.memchr.result c.memchr.ensures
