use Rattle.std.proofs.Common.{◌≡◌, drop}
use Rattle.std.specs.List.{find}
use Rattle.crawl_memory.specs.Site.{fits}
use Rattle.crawl_memory.proofs.page.answer.Given as goal

abbrev pub invariant-loop-page : goal.invariant-loop-page
invariant-loop-page l = find (λ page. fits l.exchange.host l.exchange.port l.target page) l.site ≡ find (λ page. fits l.exchange.host l.exchange.port l.target page) (drop l.page-index l.site)
