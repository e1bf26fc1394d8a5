use Rattle.open_crawl.proofs.WaitingItems.{waiting_valid}
use Rattle.open_crawl.proofs.opening.OpenCrawl.waiting.Goals as goal

pub returns-clause-items : goal.returns-clause-items
returns-clause-items c valid = waiting_valid c.args.self.now.frontier.events c.in_ok-items.items valid c.in_ok-items.ensures
