use Rattle.std.proofs.Common.{sym, ◌∙◌}
use Rattle.job_order.proofs.Tables.{read_more, read_stop}
use Rattle.job_order.proofs.list.list_of.Goals as goal

pub returns-in-None : goal.returns-in-None
returns-in-None g c =
    read_stop g.T.Element.reads c.args.values.now c.loop-value.value-index c.value-item.result c.loop-value-test.true c.value-item.is (sym c.in_ok-item.ensures ∙ c.in-None.is)

pub loop-value-preserved : goal.loop-value-preserved
loop-value-preserved g c =
    rw c.in_ok-push-in-Some.ensures.ok (read_more g.T.Element.reads c.args.values.now c.loop-value.value-index c.value-item.result c.loop-value.list c.in-Some.item c.loop-value-test.true c.value-item.is c.loop-value.invariant (sym c.in_ok-item.ensures ∙ c.in-Some.is))
