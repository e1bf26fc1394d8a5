use Rattle.std.proofs.Common.{◌∙◌, arith}
use Rattle.frontier_core.proofs.Limits.{limit_met}
use Rattle.frontier_core.proofs.choosing.is_limit_met.Goals as goal

pub returns : goal.returns
returns c h is =
    c.is_any.ensures
    ∙ limit_met c.args.settings.now h c.args.memo.now c.args.at c.seconds_since.result c.is_met-pages.result c.is_met-bytes.result c.is_met-seconds.result is (omega arith)
    c.is_met-pages.ensures c.is_met-bytes.ensures c.is_met-seconds.ensures c.seconds_since.ensures
