use Rattle.std.proofs.Common.{◌≡◌, true, false, subst, sym, ap, ◌∙◌}
use Rattle.std.specs.Prelude.{if◌then◌else◌}
use Rattle.std.proofs.lemmas.Bool.{false_from_ne_true}
use Rattle.crawl_kinds.specs.declared.event.Verdict.TheVariants.{Allowed, Precluded}
use Rattle.robots_spec.specs.Patterns.{robots_path_of}
use Rattle.robots_spec.specs.Verdict.{Allows}
use Rattle.core_facts.specs.RobotsAnswer.{allows_path}
use Rattle.core_facts.proofs.Robots.{allows_decides}
use Rattle.frontier_core.proofs.robots.ruled.Goals as goal

pub returns-then-allows : goal.returns-then-allows
returns-then-allows c =
    let rules = c.args.robots.now.rules in
    let path : c.deref.result.now ≡ robots_path_of c.args.uri.now = c.deref.ensures.value ∙ c.in_ok-path.ensures in
    let yes : allows_path rules (robots_path_of c.args.uri.now) ≡ true =
    (allows_decides rules (robots_path_of c.args.uri.now)).1 (subst (Allows rules) path (c.allows.ensures.0 c.if-allows.true)) in
    sym (ap (λ b. if b then Allowed else Precluded) yes)

pub returns : goal.returns
returns c =
    let rules = c.args.robots.now.rules in
    let path : c.deref.result.now ≡ robots_path_of c.args.uri.now = c.deref.ensures.value ∙ c.in_ok-path.ensures in
    let no : allows_path rules (robots_path_of c.args.uri.now) ≡ false =
    false_from_ne_true _ (λ yes.
    let told : c.allows.result ≡ true = c.allows.ensures.1 (subst (Allows rules) (sym path) ((allows_decides rules (robots_path_of c.args.uri.now)).0 yes)) in
    let other : c.allows.result ≡ false = c.if-allows.false in
    cc) in
    sym (ap (λ b. if b then Allowed else Precluded) no)
