use Rattle.std.proofs.Common.{◌+◌, ◌==◌, drop, sym, ap, ◌∙◌, rules}
use Rattle.std.specs.Prelude.{find}
use Rattle.std.proofs.lemmas.List.{drop_all}
use Rattle.crawl_history.specs.Codes.{redirect_letter}
use Rattle.extract_spec.specs.declared.found.Found.{Found}
use Rattle.frontier_memo.proofs.Keeping.{next_dropped}
use Rattle.frontier_memo.proofs.Lists.{found_here, found_later}
use Rattle.frontier_adds.proofs.fetched.first_redirect.Goals as goal

pub returns-then-found-eq82-clause-first : goal.returns-then-found-eq82-clause-first
returns-then-found-eq82-clause-first c =
    sym
    (c.loop-found.invariant
    ∙ ap (find (λ (f : Found). f.letter == redirect_letter)) (next_dropped c.args.links.now c.loop-found.found-index c.found-item.result c.loop-found-test.true c.found-item.is)
    ∙ found_here (λ (f : Found). f.letter == redirect_letter) c.found-item.result (drop (c.loop-found.found-index + 1) c.args.links.now) (search rules))

pub loop-found-preserved : goal.loop-found-preserved
loop-found-preserved c =
    c.loop-found.invariant
    ∙ ap (find (λ (f : Found). f.letter == redirect_letter)) (next_dropped c.args.links.now c.loop-found.found-index c.found-item.result c.loop-found-test.true c.found-item.is)
    ∙ found_later (λ (f : Found). f.letter == redirect_letter) c.found-item.result (drop (c.loop-found.found-index + 1) c.args.links.now) (search rules)

pub returns-clause-first : goal.returns-clause-first
returns-clause-first c =
    sym (c.loop-found.invariant ∙ ap (find (λ (f : Found). f.letter == redirect_letter)) (drop_all c.loop-found.found-index c.args.links.now c.loop-found-test.false))
