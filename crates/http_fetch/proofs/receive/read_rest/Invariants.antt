use Rattle.std.proofs.Common.{length, ◌-◌, ◌≡◌, ◌≤◌, take, IsTrue, List, false}
use Rattle.crawl_traits.specs.Exchanges.{giving, with_last}
use Rattle.crawl_traits.specs.declared.link.Exchange.{Exchange}
use Rattle.crawl_traits.specs.declared.link.LinkFault.{LinkFault}
use Rattle.http_fetch.proofs.receive.read_rest.Given as goal

abbrev pub invariant-pieces : goal.invariant-pieces
invariant-pieces g l = record {
  within : l.filled ≤ length l.buffer;
  from : l.fn.came ≤ l.filled;
  front : take l.fn.came l.buffer ≡ take l.fn.came l.fn.buffer;
  so_far : IsTrue (g.L.Link.tells l.fn.link) → (xs : List Exchange) → g.L.Link.exchanges l.fn.link ≡ with_last (giving (take l.fn.came l.fn.buffer) false) xs
      → g.L.Link.exchanges l.link ≡ with_last (giving (take l.filled l.buffer) false) xs;
  told : g.L.Link.tells l.link ≡ g.L.Link.tells l.fn.link;
  open_ : IsTrue (g.L.Link.tells l.fn.link) → g.L.Link.connected l.link ≡ g.L.Link.connected l.fn.link;
  later : (fault : LinkFault) → g.L.Link.faults l.fn.link fault ≤ g.L.Link.faults l.link fault;
}

abbrev pub decreases-pieces : goal.decreases-pieces
decreases-pieces g l = length l.buffer - l.filled
