use Rattle.std.proofs.Common.{arith}
use Rattle.toml.specs.View.{table_view}
use Rattle.job_spec.specs.Gives.{settings_in}
use Rattle.job_order.proofs.Small.{few_workers, few_tries}
use Rattle.job_order.proofs.values.settings_of.Goals as goal

pub overflow_cast-result : goal.overflow_cast-result
overflow_cast-result c = omega (arith, few_workers (table_view c.args.table.now), c.number_in.ensures)

pub overflow_cast-result-2 : goal.overflow_cast-result-2
overflow_cast-result-2 c = omega (arith, few_tries (table_view c.args.table.now), c.number_in-6.ensures)

pub returns : goal.returns
unfolding settings_in
returns c = cc
