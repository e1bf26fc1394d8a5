use Rattle.std.proofs.lemmas.Result.{err_from_is_err_and}
use Rattle.seed_list.specs.Seeds.{prefix_of_seed}
use Rattle.seed_list.proofs.Faults.{answer_ok, answer_err}
use Rattle.seed_list.proofs.seed.read_seed_prefix.Goals as goal

pub returns-in_err-seed_prefix : goal.returns-in_err-seed_prefix
unfolding prefix_of_seed
returns-in_err-seed_prefix c =
    let p = err_from_is_err_and c.from_residual.result c.from_residual.ensures.1 in
    rw (p.1, p.2) (answer_err _ _ c.in_err-seed_prefix.ensures)

pub returns : goal.returns
unfolding prefix_of_seed
returns c = answer_ok c.in_ok-seed_prefix.field-0 _ c.in_ok-seed_prefix.ensures
