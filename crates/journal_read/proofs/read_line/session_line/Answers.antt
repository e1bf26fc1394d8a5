use Rattle.journal_read.specs.Reading.{left}
use Rattle.journal_read.proofs.Tagged.{session_out}
use Rattle.journal_read.proofs.read_line.session_line.Goals as goal

pub returns-in-Err : goal.returns-in-Err
returns-in-Err c = session_out (left c.args.parts.now) (left c.take_opening.new.parts) c.in-Err.fault c.in-Err.ensures
