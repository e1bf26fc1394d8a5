use Rattle.journal_read.specs.Reading.{left}
use Rattle.journal_read.proofs.Tagged.{seed_out}
use Rattle.journal_read.proofs.read_line.seed_line.Goals as goal

pub returns-in-Err : goal.returns-in-Err
returns-in-Err c = seed_out (left c.args.parts.now) (left c.take_address.new.parts) c.in-Err.fault c.in-Err.ensures
