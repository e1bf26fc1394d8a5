use Rattle.std.proofs.Common.{◌-◌, ◌∙◌, length, arith}
use Rattle.crawl_memory.proofs.Places.{left_last}
use Rattle.crawl_memory.proofs.page.left.Goals as goal

pub returns : goal.returns
returns c =
    c.left_of.ensures ∙ left_last c.args.site.now c.args.exchanges.now (length c.args.exchanges.now - 1) c.index-exchanges-exchanges.result (grind arith) c.index-exchanges-exchanges.is
