use Rattle.std.proofs.Common.{◌≡◌, ℕ, ◌<◌, List, length, ap, arith}
use Rattle.seed_list.specs.Bad.{most_seeds}
use Rattle.seed_list.proofs.Steps.{answer_some, seeds_seed}
use Rattle.seed_list.proofs.seeds.push_seed.Goals as goal

pub returns-clause-ok : goal.returns-clause-ok
returns-clause-ok c =
    let same : length c.as_slice.result.now ≡ length c.args.seeds.now = ap (λ (l : List (List ℕ)). length l) c.as_slice.ensures in
    let room : length c.args.seeds.now < most_seeds = omega (arith, same) in
    seeds_seed c.args.seeds.now c.push.new.self c.args.line.now c.in_ok-read_seed.field-0 c.requires
    (answer_some _ _ c.in_ok-read_seed.ensures.answer) c.utf8.line c.in_ok-read_seed.ensures.address room c.in_ok-push.ensures.ok
