use Rattle.std.proofs.Common.{length, ◌-◌, ◌≡◌, ◌≤◌, take, IsTrue}
use Rattle.crawl_traits.specs.Exchanges.{taking, with_last}
use Rattle.crawl_traits.specs.declared.link.LinkFault.{LinkFault}
use Rattle.http_fetch.proofs.send.send_whole.Given as goal

abbrev pub invariant-loop-at : goal.invariant-loop-at
invariant-loop-at g l = record {
  within : l.at ≤ length l.text;
  so_far : IsTrue (g.L.Link.tells l.fn.link) → g.L.Link.exchanges l.link ≡ with_last (taking (take l.at l.text)) (g.L.Link.exchanges l.fn.link);
  told : g.L.Link.tells l.link ≡ g.L.Link.tells l.fn.link;
  open_ : IsTrue (g.L.Link.tells l.fn.link) → g.L.Link.connected l.link ≡ g.L.Link.connected l.fn.link;
  later : (fault : LinkFault) → g.L.Link.faults l.fn.link fault ≤ g.L.Link.faults l.link fault;
}

abbrev pub decreases-loop-at : goal.decreases-loop-at
decreases-loop-at g l = length l.text - l.at
