use Rattle.std.proofs.Common.{◌≡◌, ◌∙◌, ap, subst, IfOk, map}
use Rattle.toml.specs.View.{view}
use Rattle.job_order.proofs.Tables.{list_read}
use Rattle.job_spec.specs.Values.{all_given}
use Rattle.job_order.proofs.list.list_at.Goals as goal

pub returns-in-Some : goal.returns-in-Some
returns-in-Some g c =
    let reads = g.T.Element.reads in
    let same = ap (λ vs. all_given (map reads (map view vs))) c.as_slice.ensures.value
    ∙ list_read reads (view c.args.value.now) c.in-Some.values.now.items (rw c.in-Some.is at c.as_array.ensures) in
    subst (λ read. IfOk c.list_of.result (λ list. list ≡ read)) same c.list_of.ensures
