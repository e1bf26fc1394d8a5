use Rattle.std.proofs.Common.{length, ◌-◌, ◌≡◌, ◌≤◌, ◌++◌, take, IsTrue}
use Rattle.crawl_traits.proofs.whole.write_whole.Given as goal

abbrev pub invariant-loop-at : goal.invariant-loop-at
invariant-loop-at g l = record {
  within : l.at ≤ length l.text;
  so_far : IsTrue (g.W.Sink.tells l.fn.out) → g.W.Sink.written l.out ≡ g.W.Sink.written l.fn.out ++ take l.at l.text;
  told : g.W.Sink.tells l.out ≡ g.W.Sink.tells l.fn.out;
  later : g.W.Sink.faults l.fn.out ≤ g.W.Sink.faults l.out;
}

abbrev pub decreases-loop-at : goal.decreases-loop-at
decreases-loop-at g l = length l.text - l.at
