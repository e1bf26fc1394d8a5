use Rattle.std.proofs.Common.{ap, subst}
use Rattle.crawl_history.specs.History.{History}
use Rattle.frontier_core.specs.Core.{Core, history}
use Rattle.frontier_core.specs.Waiting.{IsWaitingList}
use Rattle.frontier_core.proofs.Kept.{waiting_list}
use Rattle.frontier_memo.proofs.Lists.{if_ok-both}
use Rattle.frontier_core.proofs.frontier.Frontier.waiting.Goals as goal

pub returns : goal.returns
returns c =
    if_ok-both _ _ _
    (λ items queued ordered. subst (λ (h : History). IsWaitingList h items) (ap (λ (own : Core). history own) c.self.view_is) (waiting_list c.self.inside.events.items c.self.inside.memo items c.self.invariant queued ordered))
    c.queued.result c.queued.ensures.queued c.queued.ensures.ordered
