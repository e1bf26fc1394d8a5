use Rattle.std.proofs.Common.{◌≡◌, true, false, sym, ap, ◌∙◌, subst}
use Rattle.std.specs.BTreeMap.{values}
use Rattle.crawl_kinds.specs.declared.settings.Settings.{Settings}
use Rattle.crawl_history.specs.Counts.{is_limit_met}
use Rattle.crawl_history.specs.Emission.{is_empty}
use Rattle.frontier_core.specs.Choosing.{kept_wake, IsLeast}
use Rattle.frontier_core.specs.Core.{history}
use Rattle.frontier_memo.specs.Sums.{class_at}
use Rattle.frontier_core.proofs.Deciding.{limited, over_nothing, over_by_least}
use Rattle.frontier_core.proofs.choosing.over.Goals as goal

pub returns-then-is_limit_met : goal.returns-then-is_limit_met
returns-then-is_limit_met c pages a core settings is =
    let none : is_empty c.args.memo.now.session.out.items ≡ true = sym c.is_none_out.ensures ∙ c.if-not-is_none_out.false in
    let met : is_limit_met core.settings (history core) c.args.at ≡ true =
    ap (λ (s : Settings). is_limit_met s (history core) c.args.at) settings ∙ sym (c.is_limit_met.ensures (history core) is) ∙ c.if-is_limit_met.true in
    sym (over_nothing pages a core c.args.memo.now is c.args.at none (limited pages a core c.args.memo.now is c.args.at met))

pub returns : goal.returns
returns c pages a core settings is =
    let none : is_empty c.args.memo.now.session.out.items ≡ true = sym c.is_none_out.ensures ∙ c.if-not-is_none_out.false in
    let unmet : is_limit_met core.settings (history core) c.args.at ≡ false =
    ap (λ (s : Settings). is_limit_met s (history core) c.args.at) settings ∙ sym (c.is_limit_met.ensures (history core) is) ∙ c.if-is_limit_met.false in
    let least : IsLeast core.settings (kept_wake c.args.settings.now c.args.memo.now.session (class_at c.args.robots.now)) (history core) (values c.args.memo.now.places) c.least.result =
    subst (λ (s : Settings). IsLeast s (kept_wake c.args.settings.now c.args.memo.now.session (class_at c.args.robots.now)) (history core) (values c.args.memo.now.places) c.least.result) (sym settings)
    (c.least.ensures.least (history core) is) in
    over_by_least pages a core c.args.memo.now is c.args.at c.least.ensures.ordered (kept_wake c.args.settings.now c.args.memo.now.session (class_at c.args.robots.now)) c.least.result c.is_none.result c.is_none.ensures least none unmet
