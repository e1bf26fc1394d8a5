use Rattle.std.proofs.Common.{List, true, sym, subst, ap, ◌∙◌}
use Rattle.std.proofs.lemmas.Result.{IfOk-weaker}
use Rattle.crawl_kinds.specs.declared.event.Event.{Event}
use Rattle.crawl_kinds.specs.declared.event.Event.TheVariants.{Seeds}
use Rattle.crawl_kinds.specs.declared.item.Item.{Item}
use Rattle.frontier_memo.specs.Taking.{Takes}
use Rattle.frontier_memo.proofs.memo.Memo.take.Goals as goal

pub returns-in-Session-clause-taken : goal.returns-in-Session-clause-taken
returns-in-Session-clause-taken c h is =
    subst (λ (e : Event). Takes h e c.take_session.new.self true) (sym c.in-Session.is) (c.take_session.ensures h _ _ is)

pub returns-in-Seeds-clause-taken : goal.returns-in-Seeds-clause-taken
returns-in-Seeds-clause-taken c =
    IfOk-weaker c.take_seeds.result _ _
    (λ fits taken h is. subst (λ (e : Event). Takes h e c.take_seeds.new.self fits) (ap (λ (adds : List Item). Seeds c.in-Seeds.time c.in-Seeds.list adds) c.as_slice.ensures ∙ sym c.in-Seeds.is) (taken h _ is))
    c.take_seeds.ensures.taken
