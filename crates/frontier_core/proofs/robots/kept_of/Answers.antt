use Rattle.std.proofs.Common.{◌∙◌, ◌/◌, sym, ap}
use Rattle.std.specs.Prelude.{nat_abs}
use Rattle.crawl_kinds.specs.declared.event.End.{End}
use Rattle.frontier_core.specs.Robots.{said_by_status}
use Rattle.frontier_core.proofs.Standing.{leaves_success}
use Rattle.frontier_core.proofs.robots.kept_of.Goals as goal

pub returns-in_ok-says-in-Success : goal.returns-in_ok-says-in-Success
returns-in_ok-says-in-Success c pages a core end agent at ends text =
    leaves_success core pages a end c.args.payload.now (text (ap (λ (e : End). e.outcome) ends ∙ c.in-Success.is)) c.args.time c.in_ok-says-in-Success.says
    (ap (λ (e : End). e.outcome) ends ∙ c.in-Success.is) at
    (c.in_ok-says-in-Success.ensures
    ∙ ap (λ (e : End). said_by_status c.args.agent.now (nat_abs e.code / 100) c.args.payload.now) (sym ends)
    ∙ ap (λ agent. said_by_status agent (nat_abs end.end.code / 100) c.args.payload.now) (sym agent))
