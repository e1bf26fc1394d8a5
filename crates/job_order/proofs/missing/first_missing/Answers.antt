-- What is missing is one of those that a job has to give, or else what a rule needs.
use Rattle.toml.specs.View.{table_view}
use Rattle.std.proofs.Common.{sym, ◌∙◌}
use Rattle.job_order.proofs.Lacking.{one_is_missing, rule_is_missing, none_is_missing}
use Rattle.job_order.proofs.missing.first_missing.Goals as goal

pub returns-in-Some : goal.returns-in-Some
returns-in-Some c = one_is_missing (table_view c.args.table.now) _ (sym c.first_needed.ensures ∙ c.in-Some.is)

pub returns-then-any_is_lacking : goal.returns-then-any_is_lacking
returns-then-any_is_lacking c =
    rule_is_missing (table_view c.args.table.now) c.entries.result.now (sym c.first_needed.ensures ∙ c.in_default.is) c.entries.ensures (sym c.any_is_lacking.ensures ∙ c.if-any_is_lacking.true)

pub returns : goal.returns
returns c =
    none_is_missing (table_view c.args.table.now) c.entries.result.now (sym c.first_needed.ensures ∙ c.in_default.is) c.entries.ensures (sym c.any_is_lacking.ensures ∙ c.if-any_is_lacking.false)
