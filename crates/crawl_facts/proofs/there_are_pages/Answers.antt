use Rattle.crawl_facts.proofs.Computed.{there_are}
use Rattle.crawl_facts.proofs.there_are_pages.Goals as goal

pub returns : goal.returns
returns c = there_are
