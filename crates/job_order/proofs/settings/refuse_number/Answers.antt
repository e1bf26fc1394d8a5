use Rattle.std.proofs.Common.{◌∙◌, sym}
use Rattle.toml.specs.View.{table_view}
use Rattle.job_order.proofs.TextSettings.{number_is_bad}
use Rattle.job_order.proofs.settings.refuse_number.Goals as goal

pub returns-in-Some : goal.returns-in-Some
returns-in-Some c =
    let m = table_view c.args.table.now in
    let found = sym c.first_bad.ensures ∙ c.in-Some.is in
    (c.in-Some.number, found, c.bad.ensures m (number_is_bad m c.in-Some.number found))
