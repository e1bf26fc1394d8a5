use Rattle.std.proofs.Common.{take}
use Rattle.crawl_history.specs.History.{history_of}
use Rattle.frontier_memo.specs.Fits.{AllFit}
use Rattle.frontier_memo.specs.Memory.{Remembers}
use Rattle.frontier_memo.proofs.fold.remember.Given as goal

abbrev pub invariant-loop-index : goal.invariant-loop-index
invariant-loop-index l = record {
  kept : Remembers (history_of (take l.index l.events)) l.memo;
  fit : AllFit (take l.index l.events);
}
