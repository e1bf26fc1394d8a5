use Rattle.std.proofs.Common.{List, [], ◌∷◌, ◌++◌, ap, sym, ◌∙◌}
use Rattle.std.specs.List.{list_any}
use Rattle.crawl_kinds.specs.declared.item.Item.{Item}
use Rattle.crawl_history.specs.Places.{has_key}
use Rattle.frontier_adds.proofs.Choosing.{seen_more, on_ok-weaker}
use Rattle.frontier_adds.proofs.candidates.keep.Goals as goal

pub returns-clause-seen : goal.returns-clause-seen
returns-clause-seen c =
    on_ok-weaker _ _
    (λ pushed key.
    seen_more c.args.seen.now c.insert.new.self c.in_ok-copy.field-0 c.args.item.now c.args.items.now c.in_ok-copy.ensures c.in_ok-insert.ensures.updates c.requires key
    ∙ ap (λ (items : List Item). list_any (has_key key) items) (sym pushed))
    c.push.result (on_ok-weaker _ _ (λ pushed. pushed ∙ ap (λ (i : Item). c.args.items.now ++ i ∷ []) c.in_ok-copy-2.ensures) c.push.result c.push.ensures.ok)
