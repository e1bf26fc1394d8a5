use Rattle.journal_read.specs.Reading.{left}
use Rattle.journal_read.proofs.Tagged.{finish_out}
use Rattle.journal_read.proofs.read_line.finish_line.Goals as goal

pub returns-in-Err : goal.returns-in-Err
returns-in-Err c = finish_out c.args.outcome (left c.args.parts.now) (left c.take_finishing.new.parts) c.in-Err.fault c.in-Err.ensures
