use Rattle.std.proofs.Common.{◌≡◌, false, not, sym, ap, ◌∙◌}
use Rattle.std.specs.Prelude.{◌&&◌}
use Rattle.std.specs.List.{list_any}
use Rattle.crawl_kinds.specs.Event.{Emission}
use Rattle.crawl_history.specs.Counts.{budget_spent, is_retired}
use Rattle.crawl_history.specs.Queues.{in_class}
use Rattle.crawl_history.specs.Tickets.{is_out}
use Rattle.frontier_memo.specs.Memory.{emission}
use Rattle.frontier_memo.specs.declared.session.Out.{Out}
use Rattle.frontier_memo.proofs.Lists.{any-map}
use Rattle.frontier_core.proofs.choosing.may_go.Goals as goal

pub returns-then-not-is_retired : goal.returns-then-not-is_retired
returns-then-not-is_retired c h is =
    let retired : is_retired c.args.settings.now h c.args.class.now ≡ false =
    sym (c.is_met-is_retired.ensures (budget_spent h c.args.class.now) (c.spent.ensures ∙ is.counts.spent c.args.class.now)) ∙ c.if-not-is_retired.true in
    let out : c.is_class_out-is_out.result ≡ is_out h c.args.class.now =
    c.is_class_out-is_out.ensures ∙ ap (list_any (λ (o : Out). in_class c.args.class.now o.item)) c.deref.ensures.value
    ∙ sym (any-map emission (λ (m : Emission). in_class c.args.class.now m.item) c.args.memo.now.session.out.items)
    ∙ ap (list_any (λ (m : Emission). in_class c.args.class.now m.item)) is.session.out in
    ap not out ∙ ap (λ b. not b && not (is_out h c.args.class.now)) (sym retired)
