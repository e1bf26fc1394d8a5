use Rattle.std.proofs.Common.{◌≡◌, ◌==◌, drop}
use Rattle.std.specs.Prelude.{find}
use Rattle.crawl_history.specs.Codes.{redirect_letter}
use Rattle.extract_spec.specs.declared.found.Found.{Found}
use Rattle.frontier_adds.proofs.fetched.first_redirect.Given as goal

abbrev pub invariant-loop-found : goal.invariant-loop-found
invariant-loop-found l =
    find (λ (f : Found). f.letter == redirect_letter) l.links ≡ find (λ (f : Found). f.letter == redirect_letter) (drop l.found-index l.links)
