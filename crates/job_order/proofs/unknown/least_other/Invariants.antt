use Rattle.toml.specs.View.{table_view}
use Rattle.job_order.specs.Known.{known_names}
use Rattle.job_order.proofs.Tables.{IsLeft}
use Rattle.job_order.proofs.unknown.least_other.Given as goal

abbrev pub invariant-loop-name : goal.invariant-loop-name
invariant-loop-name l = IsLeft (known_names l.fn.known) (table_view l.table) l.name-iterator
