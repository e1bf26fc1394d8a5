use Rattle.std.proofs.lemmas.Result.{err_from_is_err_and}
use Rattle.seed_list.specs.Seeds.{seed_of}
use Rattle.seed_list.proofs.Faults.{answer_ok, answer_err}
use Rattle.seed_list.proofs.seed.read_seed.Goals as goal

pub returns-in_err-seed_uri-clause-answer : goal.returns-in_err-seed_uri-clause-answer
unfolding seed_of
returns-in_err-seed_uri-clause-answer c =
    let p = err_from_is_err_and c.from_residual.result c.from_residual.ensures.1 in
    rw (p.1, p.2) (answer_err _ _ c.in_err-seed_uri.ensures.answer)

pub returns-clause-answer : goal.returns-clause-answer
unfolding seed_of
returns-clause-answer c = answer_ok c.in_ok-seed_uri.field-0 _ c.in_ok-seed_uri.ensures.answer
