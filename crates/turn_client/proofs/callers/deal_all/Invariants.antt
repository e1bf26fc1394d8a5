use Rattle.std.proofs.Common.{◌≡◌, ◌+◌, ◌*◌, length}
use Rattle.turn_client.specs.Rows.{AreDealt}
use Rattle.turn_client.proofs.callers.deal_all.Given as goal

abbrev pub invariant-loop : goal.invariant-loop
invariant-loop l = record {
  own : l.first.pass.table_id ≡ l.tally.lock.table.shared.table_id;
  first : l.first.first ≡ 0;
  end : l.first.end + length l.parts.items ≡ 32;
  made : l.first.made ≡ 0;
  left : l.first.left + 1099511627776 * length l.parts.items ≡ 18446744073709551615;
  count : length l.parts.items + 1 ≡ l.counter;
  dealt : AreDealt l.tally.lock.table.shared.table_id l.callers 0 1099511627776 l.parts.items;
}
