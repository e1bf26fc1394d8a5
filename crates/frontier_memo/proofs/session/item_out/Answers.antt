use Rattle.std.proofs.Common.{◌==◌, sym, ap, ◌∙◌, rules}
use Rattle.std.specs.Prelude.{find, option_map}
use Rattle.std.proofs.lemmas.List.{drop_all}
use Rattle.frontier_memo.specs.declared.session.Out.{Out}
use Rattle.frontier_memo.specs.Taking.{item_under}
use Rattle.frontier_memo.proofs.Keeping.{next_dropped}
use Rattle.frontier_memo.proofs.Lists.{found_here, found_later}
use Rattle.frontier_memo.proofs.session.item_out.Goals as goal

pub returns-then-one-ticket : goal.returns-then-one-ticket
unfolding item_under
returns-then-one-ticket c =
    sym (ap (option_map (λ (o : Out). o.item)) (c.loop-one.invariant ∙ ap (find (λ (o : Out). o.ticket == c.args.ticket)) (next_dropped c.args.out.now c.loop-one.one-index c.one-item.result c.loop-one-test.true c.one-item.is) ∙ found_here (λ (o : Out). o.ticket == c.args.ticket) c.one-item.result _ (search rules)))

pub loop-one-preserved : goal.loop-one-preserved
loop-one-preserved c =
    c.loop-one.invariant ∙ ap (find (λ (o : Out). o.ticket == c.args.ticket)) (next_dropped c.args.out.now c.loop-one.one-index c.one-item.result c.loop-one-test.true c.one-item.is) ∙ found_later (λ (o : Out). o.ticket == c.args.ticket) c.one-item.result _ (search rules)

pub returns : goal.returns
unfolding item_under
returns c =
    sym (ap (option_map (λ (o : Out). o.item)) (c.loop-one.invariant ∙ ap (find (λ (o : Out). o.ticket == c.args.ticket)) (drop_all c.loop-one.one-index c.args.out.now c.loop-one-test.false)))
