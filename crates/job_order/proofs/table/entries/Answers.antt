use Rattle.std.proofs.Common.{ap, map, ◌∙◌}
use Rattle.toml.specs.Data.{get_member}
use Rattle.toml.specs.View.{view, table_view}
use Rattle.job_order.proofs.Tables.{entries_at}
use Rattle.job_order.proofs.table.entries.Goals as goal

pub returns-in-Some-as_array : goal.returns-in-Some-as_array
returns-in-Some-as_array c =
    let m = table_view c.args.table.now in
    let there = rw c.in-Some.is at c.value_at.ensures in
    let is = rw c.in-Some-as_array.is at c.as_array.ensures in
    ap (map view) c.as_slice.ensures.value ∙ entries_at m (view c.in-Some.value.now) c.in-Some-as_array.array.now.items (there ∙ ap (λ name. get_member name m) c.setting_name.ensures) is
