use Rattle.std.proofs.Common.{◌≡◌, ℕ, List, take}
use Rattle.std.specs.List.{list_any}
use Rattle.std.specs.Ordering.{nat_cmp}
use Rattle.std.specs.Cmp.Lexicographic.{slice_cmp}
use Rattle.std.specs.BTreeSet.{contains}
use Rattle.crawl_history.specs.Places.{has_key}
use Rattle.frontier_adds.specs.Candidates.{taken}
use Rattle.frontier_adds.proofs.candidates.taken.Given as goal

abbrev pub invariant-loop-item : goal.invariant-loop-item
invariant-loop-item l = record {
  asked : l.decider ≡ l.scope;
  items : l.items ≡ taken l.places l.scope (take l.item-index l.candidates);
  seen : (key : List ℕ) → contains (slice_cmp nat_cmp) l.seen key ≡ list_any (has_key key) l.items;
}
