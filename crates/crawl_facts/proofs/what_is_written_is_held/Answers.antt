use Rattle.crawl_facts.proofs.Held.{behind_is_held}
use Rattle.crawl_facts.proofs.what_is_written_is_held.Goals as goal

pub returns : goal.returns
returns c = behind_is_held
