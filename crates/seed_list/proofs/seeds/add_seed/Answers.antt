use Rattle.std.proofs.Common.{sym, ◌∙◌}
use Rattle.seed_list.proofs.Steps.{seeds_passed}
use Rattle.seed_list.proofs.seeds.add_seed.Goals as goal

pub returns-then-is_passed-clause-ok : goal.returns-then-is_passed-clause-ok
returns-then-is_passed-clause-ok c =
    seeds_passed c.args.seeds.now c.args.line.now (sym c.is_passed.ensures ∙ c.if-is_passed.true) c.in-Ok.ensures.cases.1
