use Rattle.std.proofs.Common.{◌≡◌, List, ◌++◌}
use Rattle.std.specs.BTreeMap.{values}
use Rattle.crawl_history.specs.History.{History}
use Rattle.frontier_core.specs.Choosing.{kept_wake, IsLeast}
use Rattle.frontier_memo.specs.Memory.{Remembers}
use Rattle.frontier_memo.specs.Sums.{class_at}
use Rattle.frontier_memo.specs.declared.known.Known.{Known}
use Rattle.frontier_core.proofs.choosing.least.Given as goal

abbrev pub invariant-loop-known : goal.invariant-loop-known
invariant-loop-known l = record {
  front : List Known;
  whole : front ++ l.known-iterator ≡ values l.memo.places;
  least : (h : History) → Remembers h l.memo → IsLeast l.settings (kept_wake l.settings l.memo.session (class_at l.robots)) h front l.best;
}
