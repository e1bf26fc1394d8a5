use Rattle.std.proofs.Common.{rules, tests, ◌≡◌, ◌∙◌, ap, length, not, unwrap_or}
use Rattle.std.specs.Prelude.{position}
use Rattle.std.proofs.lemmas.Iterator.{YieldsList-from_slice}
use Rattle.std.proofs.lemmas.Iterator.Search.{position_from_yields_List}
use Rattle.std.specs.Char.{is_ascii_digit}
use Rattle.robots_rules.proofs.Scans.{position-unwrap_not}
use Rattle.robots_rules.proofs.line.digits_len.Goals as goal

pub returns : goal.returns
returns c =
    let e : c.position.result ≡ position (λ b. not (is_ascii_digit b)) c.args.bytes.now = position_from_yields_List (λ b. not (is_ascii_digit b)) _ _ _ c.position.ensures.ran (YieldsList-from_slice c.args.bytes.now cc) (λ x b q k. search (rules, tests)) in
    c.unwrap_or.ensures ∙ ap (λ o. unwrap_or o (length c.args.bytes.now)) e ∙ position-unwrap_not is_ascii_digit c.args.bytes.now
