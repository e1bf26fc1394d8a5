use Rattle.crawl_laws.proofs.Opening.{opening_legal}
use Rattle.crawl_laws.proofs.opening_goes_on.Goals as goal

pub returns : goal.returns
returns c text job moment held new pages a is forms begins legal =
    opening_legal text job (c.job_is_in_range.ensures text job.settings job.seeds job.scope is.is) c.valid_is_computed.ensures pages a moment
    c.items_are_valid.ensures c.keys_grow.ensures forms held new begins legal
