use Rattle.seed_list.specs.Listing.{IsListOf}
use Rattle.seed_list.proofs.Walks.{walked}
use Rattle.seed_list.proofs.list.read_seed_list.Given as goal

abbrev pub invariant-loop-count : goal.invariant-loop-count
invariant-loop-count l = record {
  ready : (goal.iterator-loop-count).can_next l.count-iterator;
  ends : (goal.iterator-loop-count).is_finite l.count-iterator;
  list : IsListOf l.list (walked l.yielded);
}
