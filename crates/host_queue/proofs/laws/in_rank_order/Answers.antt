use Rattle.host_queue.proofs.Ranks.{in_rank_order_of}
use Rattle.host_queue.proofs.laws.in_rank_order.Goals as goal

pub returns : goal.returns
returns c = in_rank_order_of
