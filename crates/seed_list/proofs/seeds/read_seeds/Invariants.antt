use Rattle.seed_list.specs.Listing.{AreSeedsOf}
use Rattle.seed_list.proofs.Walks.{walked}
use Rattle.seed_list.proofs.seeds.read_seeds.Given as goal

abbrev pub invariant-loop-count : goal.invariant-loop-count
invariant-loop-count l = record {
  ready : (goal.iterator-loop-count).can_next l.count-iterator;
  ends : (goal.iterator-loop-count).is_finite l.count-iterator;
  seeds : AreSeedsOf l.seeds (walked l.yielded);
}
