use Rattle.std.proofs.Common.{◌+◌, Option, ap, ◌∙◌}
use Rattle.std.specs.Prelude.{bytes_eq, if◌then◌else◌}
use Rattle.std.specs.Option.{option_or}
use Rattle.crawl_kinds.specs.declared.snapshot.Edge.{Edge}
use Rattle.frontier_memo.specs.Sums.{saturated, spent_at}
use Rattle.frontier_memo.proofs.CountSteps.{counted}
use Rattle.frontier_memo.proofs.counts.Counts.count.Goals as goal

pub returns : goal.returns
returns c h time caller ticket adds is =
    let own = c.args.self.now in
    counted h own _ time caller ticket c.args.item.now c.args.end.now adds is
    (λ q. c.spend.ensures q ∙ ap (λ n. if bytes_eq c.args.item.now.class q then saturated (spent_at own.spent q + n) else spent_at own.spent q) c.cost_of.ensures)
    (c.saturating_add-self.ensures ∙ ap (λ n. saturated (own.pages + n)) c.page_of.ensures)
    (c.saturating_add-self-2.ensures ∙ ap (λ n. saturated (own.bytes + n)) c.size_of.ensures)
    (c.or-self.ensures ∙ ap (λ (o : Option Edge). option_or o own.end) c.edge_after.ensures)
