use Rattle.std.proofs.Common.{◌≡◌, true, false, Some, None, sym, ap, ◌∙◌}
use Rattle.frontier_memo.specs.Taking.{item_under}
use Rattle.frontier_memo.proofs.memo.Memo.finish_fits.Goals as goal

pub returns-in_default : goal.returns-in_default
returns-in_default c = (λ h. cc, λ may. let clash : Some c.args.item.now ≡ None = sym may.out ∙ sym (c.in_default.ensures ∙ ap (item_under c.args.ticket) c.deref.ensures.value) in cc)

pub returns-else-same_item : goal.returns-else-same_item
returns-else-same_item c = (
  λ h. let clash : true ≡ false = sym h ∙ c.if-same_item.false in cc,
  λ may. let same : Some c.in-Some.own.now ≡ Some c.args.item.now = c.in-Some.ensures ∙ ap (item_under c.args.ticket) c.deref.ensures.value ∙ may.out in c.same_item.ensures.1 cc,
)
