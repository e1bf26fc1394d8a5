use Rattle.host_queue.proofs.Members.{one_order}
use Rattle.host_queue.proofs.laws.one_order.Goals as goal

pub returns : goal.returns
returns c = one_order
