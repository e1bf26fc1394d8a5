use Rattle.std.proofs.Common.{Some, ap, ◌∙◌}
use Rattle.std.specs.Prelude.{if◌then◌else◌}
use Rattle.crawl_kinds.specs.declared.item.Item.{Item}
use Rattle.crawl_history.specs.Places.{has_key}
use Rattle.frontier_memo.specs.Keeping.{known_at, added_by}
use Rattle.frontier_memo.proofs.Maps.{written}
use Rattle.frontier_memo.proofs.places.add.Goals as goal

pub returns-clause-ok : goal.returns-clause-ok
returns-clause-ok c key =
    written c.args.places.now c.insert.new.self c.in_ok-copy-2.field-0 c.args.item.now.key _ c.in_ok-copy-2.ensures c.in_ok-insert.ensures.updates key
    ∙ ap (λ (item : Item). if has_key key c.args.item.now then Some (added_by (record { ordinal = c.args.ordinal; item = item })) else known_at c.args.places.now key) c.in_ok-copy.ensures
