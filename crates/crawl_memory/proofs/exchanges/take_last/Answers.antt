use Rattle.std.proofs.Common.{◌-◌, List, ℕ, ap, ◌∙◌, set, arith}
use Rattle.crawl_traits.specs.Exchanges.{taking}
use Rattle.crawl_memory.proofs.Places.{step_last}
use Rattle.crawl_memory.proofs.exchanges.take_last.Goals as goal

pub returns-clause-ok : goal.returns-clause-ok
returns-clause-ok c =
    let items = c.args.exchanges.now.items in
    let d = c.index_mut-last.result.now in
    ap (λ (l : List ℕ). set items (c.len-at.result - 1) (record d { taken = l })) c.in_ok-extend.ensures.ok
    ∙ step_last (taking c.args.from.now) items (c.len-at.result - 1) d (grind arith) c.index_mut-last.ensures.value
