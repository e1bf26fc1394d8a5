use Rattle.std.proofs.Common.{◌≡◌, ℕ, List, [], take, drop, false}
use Rattle.std.specs.List.{AllByRecursion}
use Rattle.crawl_kinds.specs.declared.item.Item.{Item}
use Rattle.frontier_memo.specs.Keeping.{known_at, waits_by, after_adds, are_free}
use Rattle.frontier_memo.proofs.places.add_each.Given as goal

abbrev pub invariant-loop-at : goal.invariant-loop-at
invariant-loop-at l = record {
  kept : (key : List ℕ) → known_at l.places key ≡ after_adds l.ordinals (take l.at l.items) key (known_at l.initial.places key);
  free : are_free (λ key. waits_by (known_at l.initial.places key)) [] l.items ≡ are_free (λ key. waits_by (known_at l.initial.places key)) (take l.at l.items) (drop l.at l.items);
  quiet : AllByRecursion (λ (i : Item). waits_by (known_at l.initial.places i.key) ≡ false) (take l.at l.items);
}
