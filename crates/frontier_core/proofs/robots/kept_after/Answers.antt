use Rattle.std.proofs.Common.{Bool, ap, sym, ◌∙◌}
use Rattle.std.specs.Prelude.{◌&&◌}
use Rattle.std.proofs.lemmas.Result.{IfOk-weaker}
use Rattle.crawl_kinds.specs.declared.item.Item.{Item}
use Rattle.crawl_history.specs.Outcomes.{is_prerequisite, is_success_or_failure}
use Rattle.frontier_core.specs.Core.{facts}
use Rattle.frontier_core.proofs.Standing.{leaves_end}
use Rattle.frontier_core.proofs.robots.kept_after.Goals as goal

pub returns-then-not-is_prerequisite : goal.returns-then-not-is_prerequisite
returns-then-not-is_prerequisite c pages a core end agent item at ends text =
    ap (λ (b : Bool). b && is_success_or_failure end.end.outcome) (ap (λ (i : Item). is_prerequisite i) item ∙ sym c.is_prerequisite.ensures ∙ c.if-not-is_prerequisite.true)

pub returns : goal.returns
returns c =
    IfOk-weaker c.kept_of.result _ _
    (λ kept leaves pages a core end agent item at ends text.
    let robots = ap (λ (i : Item). is_prerequisite i) item ∙ sym c.is_prerequisite.ensures ∙ c.if-not-is_prerequisite.false in
    leaves_end (facts core pages) a end robots kept (leaves pages a core end agent at ends (λ came. text came robots)))
    c.kept_of.ensures
