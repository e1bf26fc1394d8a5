use Rattle.journal_read.specs.Reading.{left}
use Rattle.journal_read.proofs.Tagged.{emit_out}
use Rattle.journal_read.proofs.read_line.emit_line.Goals as goal

pub returns-in-Err : goal.returns-in-Err
returns-in-Err c = emit_out (left c.args.parts.now) (left c.take_emission.new.parts) c.in-Err.fault c.in-Err.ensures
