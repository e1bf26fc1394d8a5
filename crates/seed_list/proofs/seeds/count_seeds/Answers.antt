use Rattle.std.proofs.Common.{ℕ, List, eqb, ◌∙◌, rules, tests}
use Rattle.std.specs.List.{slice_split}
use Rattle.std.proofs.lemmas.Iterator.Consumers.{count_from_yields_List, YieldsList-at, YieldsList-from_filter}
use Rattle.std.proofs.lemmas.Iterator.Splits.{YieldsList-from_slice_split}
use Rattle.std.proofs.lemmas.List.Sums.{length-filter}
use Rattle.seed_list.specs.Lines.{is_seed_line, line_feed, trimmed}
use Rattle.seed_list.proofs.Walks.{counted}
use Rattle.seed_list.proofs.seeds.count_seeds.Goals as goal

pub returns : goal.returns
returns c =
    let text = c.args.text.now in
    let pieces : List (List ℕ) = slice_split (λ b. eqb b line_feed) text in
    count_from_yields_List c.filter.result _ c.count.ensures.ran (YieldsList-from_filter _ (λ (l : List ℕ). is_seed_line (trimmed l)) (YieldsList-at c.filter.ensures.source (YieldsList-from_slice_split _ (λ b. eqb b line_feed) text c.split.ensures.rest c.split.ensures.done c.split.ensures.closure (λ x b q k. search (rules, tests)))) c.filter.ensures.closure (λ x b q k. search (rules, tests)))
    ∙ length-filter (λ (l : List ℕ). is_seed_line (trimmed l)) pieces
    ∙ counted is_seed_line trimmed pieces
