use Rattle.std.proofs.Common.{rules, tests, ◌≡◌, ◌==◌, ◌∙◌, ap, length, unwrap_or}
use Rattle.std.specs.Prelude.{position}
use Rattle.std.proofs.lemmas.Iterator.{YieldsList-from_slice}
use Rattle.std.proofs.lemmas.Iterator.Search.{position_from_yields_List}
use Rattle.scope_spec.specs.UriParts.{colon}
use Rattle.scope_rules.proofs.Scans.{position-unwrap}
use Rattle.frontier_core.proofs.robots.colon_at.Goals as goal

pub returns : goal.returns
returns c =
    let xs = c.args.bytes.now in
    let e : c.position.result ≡ position (λ b. b == colon) xs = position_from_yields_List (λ b. b == colon) _ _ _ c.position.ensures.ran (YieldsList-from_slice xs cc) (λ x b q k. search (rules, tests)) in
    c.unwrap_or.ensures ∙ ap (λ o. unwrap_or o (length xs)) e ∙ position-unwrap (λ b. b == colon) xs
