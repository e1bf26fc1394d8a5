use Rattle.std.proofs.Common.{◌≡◌, ◌-◌, ◌++◌, List, ℕ, Bool, ap, ◌∙◌, set, arith}
use Rattle.std.specs.Prelude.{◌||◌}
use Rattle.crawl_traits.specs.Exchanges.{giving}
use Rattle.crawl_memory.proofs.Places.{step_last}
use Rattle.crawl_memory.proofs.exchanges.give_last.Goals.{then-last, else-last}
use Rattle.crawl_memory.proofs.exchanges.give_last.Goals as goal

pub returns-clause-ok : goal.returns-clause-ok
returns-clause-ok c =
    let items = c.args.exchanges.now.items in
    let d = c.index_mut-last.result.now in
    let ends : c.if-last.last ≡ d.ended || c.args.ends = elim c.if-last.branch [
      | then-last w ↦ grind arith
      | else-last w ↦ grind arith
    ] in
    ap (λ (l : List ℕ). set items (c.len-at.result - 1) (record d { given = l; ended = c.if-last.last })) c.in_ok-extend.ensures.ok
    ∙ ap (λ (b : Bool). set items (c.len-at.result - 1) (record d { given = d.given ++ c.args.from.now; ended = b })) ends
    ∙ step_last (giving c.args.from.now c.args.ends) items (c.len-at.result - 1) d (grind arith) c.index_mut-last.ensures.value
