use Rattle.std.proofs.Common.{◌≡◌, true, false, None, sym, ap, ◌∙◌, subst, Option}
use Rattle.std.specs.BTreeMap.{values}
use Rattle.crawl_kinds.specs.declared.settings.Settings.{Settings}
use Rattle.crawl_history.specs.Counts.{is_limit_met}
use Rattle.crawl_history.specs.History.{history_of}
use Rattle.frontier_core.specs.Choosing.{kept_wake, IsFirst, IsLeast}
use Rattle.frontier_core.specs.Core.{history}
use Rattle.frontier_core.specs.declared.choosing.Choice.{Choice}
use Rattle.frontier_memo.specs.Sums.{class_at}
use Rattle.frontier_core.proofs.Deciding.{goes_out, nothing, limited, idle, goes, snoozes}
use Rattle.frontier_core.proofs.choosing.decide.Goals as goal

pub returns-then-is_limit_met-clause-answered : goal.returns-then-is_limit_met-clause-answered
returns-then-is_limit_met-clause-answered c pages a core settings robots is stands =
    let met : is_limit_met core.settings (history core) c.args.at ≡ true =
    ap (λ (s : Settings). is_limit_met s (history core) c.args.at) settings ∙ sym (c.is_limit_met.ensures (history core) is) ∙ c.if-is_limit_met.true in
    nothing pages a core c.args.memo.now is c.args.at (limited pages a core c.args.memo.now is c.args.at met) ∙ sym c.idle.ensures

pub returns-in_default-clause-answered : goal.returns-in_default-clause-answered
returns-in_default-clause-answered c pages a core settings robots is stands =
    let least : IsLeast core.settings (kept_wake c.args.settings.now c.args.memo.now.session (class_at c.args.robots.now)) (history core) (values c.args.memo.now.places) None =
    subst (λ (s : Settings). IsLeast s (kept_wake c.args.settings.now c.args.memo.now.session (class_at c.args.robots.now)) (history core) (values c.args.memo.now.places) None) (sym settings)
    (subst (λ (o : Option Choice). IsLeast c.args.settings.now (kept_wake c.args.settings.now c.args.memo.now.session (class_at c.args.robots.now)) (history core) (values c.args.memo.now.places) o) c.in_default.is
    (c.least.ensures.least (history core) is)) in
    nothing pages a core c.args.memo.now is c.args.at
    (idle pages a core c.args.memo.now is c.args.at c.least.ensures.ordered (kept_wake c.args.settings.now c.args.memo.now.session (class_at c.args.robots.now)) least)
    ∙ sym c.idle-in_default.ensures

pub returns-then-choice-at-clause-answered : goal.returns-then-choice-at-clause-answered
returns-then-choice-at-clause-answered c pages a core settings robots is stands =
    let unmet : is_limit_met core.settings (history core) c.args.at ≡ false =
    ap (λ (s : Settings). is_limit_met s (history core) c.args.at) settings ∙ sym (c.is_limit_met.ensures (history core) is) ∙ c.if-is_limit_met.false in
    let first : IsFirst core.settings (kept_wake core.settings c.args.memo.now.session (class_at c.args.robots.now)) (history core) (values c.args.memo.now.places) c.in-Some.choice =
    subst (λ (s : Settings). IsFirst s (kept_wake s c.args.memo.now.session (class_at c.args.robots.now)) (history core) (values c.args.memo.now.places) c.in-Some.choice) (sym settings)
    (c.in-Some.ensures.least (history core) is) in
    goes pages a core c.args.memo.now is c.args.at c.least.ensures.ordered c.args.robots.now robots stands unmet c.in-Some.choice first c.if-choice-at.true

pub returns-then-choice-at-clause-ready : goal.returns-then-choice-at-clause-ready
returns-then-choice-at-clause-ready c events is =
    goes_out c.args.settings.now (kept_wake c.args.settings.now c.args.memo.now.session (class_at c.args.robots.now)) (history_of events) c.args.memo.now is c.least.ensures.ordered
    c.in-Some.choice (c.in-Some.ensures.least (history_of events) is)

pub returns-else-choice-at-clause-answered : goal.returns-else-choice-at-clause-answered
returns-else-choice-at-clause-answered c pages a core settings robots is stands =
    let unmet : is_limit_met core.settings (history core) c.args.at ≡ false =
    ap (λ (s : Settings). is_limit_met s (history core) c.args.at) settings ∙ sym (c.is_limit_met.ensures (history core) is) ∙ c.if-is_limit_met.false in
    let first : IsFirst core.settings (kept_wake core.settings c.args.memo.now.session (class_at c.args.robots.now)) (history core) (values c.args.memo.now.places) c.in-Some.choice =
    subst (λ (s : Settings). IsFirst s (kept_wake s c.args.memo.now.session (class_at c.args.robots.now)) (history core) (values c.args.memo.now.places) c.in-Some.choice) (sym settings)
    (c.in-Some.ensures.least (history core) is) in
    snoozes pages a core c.args.memo.now is c.args.at c.least.ensures.ordered c.args.robots.now robots stands unmet c.in-Some.choice first c.if-choice-at.false
