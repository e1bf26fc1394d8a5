use Rattle.std.proofs.Common.{Bool, ap, ◌∙◌}
use Rattle.std.specs.Prelude.{count_by}
use Rattle.crawl_kinds.specs.declared.item.Item.{Item}
use Rattle.crawl_history.specs.Places.{is_absent}
use Rattle.frontier_adds.proofs.adds.new_keys.Goals as goal

pub returns : goal.returns
returns c h keeps =
    c.absent_keys.ensures ∙ ap (λ (p : Item → Bool). count_by p c.args.items.now) (λ i x. is_absent (keeps x.key i))
