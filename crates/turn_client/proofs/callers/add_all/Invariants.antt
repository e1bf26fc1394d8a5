use Rattle.std.proofs.Common.{◌≡◌, ◌+◌}
use Rattle.turn_client.proofs.callers.add_all.Given as goal

abbrev pub invariant-loop : goal.invariant-loop
invariant-loop g l = record {
  own : l.part.pass.table_id ≡ l.initial.part.pass.table_id;
  first : l.part.first ≡ l.initial.part.first;
  end : l.part.end ≡ l.initial.part.end;
  made : l.part.made ≡ l.initial.part.made + l.counter;
  left : l.part.left + l.counter ≡ l.initial.part.left;
}
