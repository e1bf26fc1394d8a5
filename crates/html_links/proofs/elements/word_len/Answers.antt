use Rattle.std.proofs.Common.{rules, tests, ◌≡◌, ◌∙◌, ap, length, unwrap_or}
use Rattle.std.specs.Prelude.{position}
use Rattle.std.proofs.lemmas.Iterator.{YieldsList-from_slice}
use Rattle.std.proofs.lemmas.Iterator.Search.{position_from_yields_List}
use Rattle.link_spec.specs.Words.{is_blank}
use Rattle.link_spec.proofs.Scans.{position-unwrap}
use Rattle.html_links.proofs.elements.word_len.Goals as goal

pub returns-clause-count : goal.returns-clause-count
returns-clause-count c =
    let e : c.position.result ≡ position (is_blank) c.args.bytes.now = position_from_yields_List (is_blank) _ _ _ c.position.ensures.ran (YieldsList-from_slice c.args.bytes.now cc) (λ x b q k. search (rules, tests)) in
    c.unwrap_or.ensures ∙ ap (λ o. unwrap_or o (length c.args.bytes.now)) e ∙ position-unwrap is_blank c.args.bytes.now
