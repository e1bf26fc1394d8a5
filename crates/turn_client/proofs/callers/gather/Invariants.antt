use Rattle.std.proofs.Common.{◌≡◌, ◌+◌, ◌*◌, ◌<◌, length}
use Rattle.turn_client.specs.Rows.{AreDealt}
use Rattle.turn_client.proofs.callers.gather.Given as goal

abbrev pub invariant-loop-part : goal.invariant-loop-part
invariant-loop-part l = record {
  own : l.all.pass.table_id ≡ l.tally.lock.table.shared.table_id;
  first : l.all.first ≡ 0;
  numbers : l.all.first < l.all.end;
  end : l.all.end + length l.parts.items ≡ 32;
  made : l.all.made + length l.parts.items * l.turns ≡ length l.fn.parts.items * l.turns;
  dealt : AreDealt l.tally.lock.table.shared.table_id (length l.fn.parts.items) l.turns 0 l.parts.items;
  shorter : length l.parts.items < length l.fn.parts.items;
}

abbrev pub decreases-loop-part : goal.decreases-loop-part
decreases-loop-part l = length l.parts.items
