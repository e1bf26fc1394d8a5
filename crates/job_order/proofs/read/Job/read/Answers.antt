use Rattle.std.proofs.lemmas.Result.{err_from_is_err_and, MatchResult-weaker}
use Rattle.toml.specs.View.{table_view}
use Rattle.job_order.proofs.Refusals.{refused, job_read}
use Rattle.job_order.proofs.read.Job.read.Goals as goal

pub returns-in_err-refuse_unknown-clause-job : goal.returns-in_err-refuse_unknown-clause-job
returns-in_err-refuse_unknown-clause-job c =
    let p = err_from_is_err_and c.from_residual-in_err-refuse_unknown.result c.from_residual-in_err-refuse_unknown.ensures.1 in
    rw (p.1, p.2) (refused c.args.text.now (table_view c.in_ok-table.table) c.in_err-refuse_unknown.field-0.0 c.in_ok-table.ensures c.in_err-refuse_unknown.ensures)

pub returns-in_err-refuse_missing-clause-job : goal.returns-in_err-refuse_missing-clause-job
returns-in_err-refuse_missing-clause-job c =
    let p = err_from_is_err_and c.from_residual-in_err-refuse_missing.result c.from_residual-in_err-refuse_missing.ensures.1 in
    rw (p.1, p.2) (refused c.args.text.now (table_view c.in_ok-table.table) c.in_err-refuse_missing.field-0.0 c.in_ok-table.ensures c.in_err-refuse_missing.ensures)

pub returns-clause-job : goal.returns-clause-job
returns-clause-job c =
    let m = table_view c.in_ok-table.table in
    MatchResult-weaker c.job_of.result c.job_of.ensures.job (λ job is. job_read c.args.text.now m job.settings job.seeds job.scope c.in_ok-table.ensures is) (λ given is. refused c.args.text.now m given c.in_ok-table.ensures is)
