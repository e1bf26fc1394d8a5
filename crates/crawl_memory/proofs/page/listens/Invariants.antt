use Rattle.std.proofs.Common.{◌≡◌, drop}
use Rattle.crawl_memory.specs.Site.{listens}
use Rattle.crawl_memory.proofs.page.listens.Given as goal

abbrev pub invariant-loop-page : goal.invariant-loop-page
invariant-loop-page l = listens l.site l.host l.port ≡ listens (drop l.page-index l.site) l.host l.port
