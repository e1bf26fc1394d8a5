use Rattle.polite_crawl.proofs.Between.{Going}
use Rattle.polite_crawl.proofs.crawling.crawl.Given as goal

abbrev pub invariant-loop : goal.invariant-loop
invariant-loop g l =
    Going g.V.Volume g.W.Sink g.L.Link g.C.Clock.gives l.clock l.fn.crawl l.fn.volume l.fn.out l.fn.link l.crawl l.volume l.out l.link
