use Rattle.std.proofs.Common.{rules, tests, ◌≡◌, ◌≤◌, ◌==◌, ◌∙◌, ap, sym, subst, length, unwrap_or}
use Rattle.std.specs.Prelude.{position}
use Rattle.std.specs.List.{position_or_len}
use Rattle.std.proofs.lemmas.Iterator.{YieldsList-from_slice}
use Rattle.std.proofs.lemmas.Iterator.Search.{position_from_yields_List}
use Rattle.crawl_memory.proofs.Places.{place_or_len, place_within}
use Rattle.crawl_memory.proofs.page.first_space.Goals as goal

pub returns : goal.returns
returns c =
    let e : c.position.result ≡ position (λ b. b == 32) c.args.bytes.now = position_from_yields_List (λ b. b == 32) _ _ _ c.position.ensures.ran (YieldsList-from_slice c.args.bytes.now cc) (λ x b q k. search (rules, tests)) in
    let is : c.unwrap_or.result ≡ position_or_len (λ b. b == 32) c.args.bytes.now = c.unwrap_or.ensures ∙ ap (λ o. unwrap_or o (length c.args.bytes.now)) e ∙ place_or_len (λ b. b == 32) c.args.bytes.now in
    record {
      place = is;
      within = subst (λ n. n ≤ length c.args.bytes.now) (sym is) (place_within (λ b. b == 32) c.args.bytes.now);
    }
