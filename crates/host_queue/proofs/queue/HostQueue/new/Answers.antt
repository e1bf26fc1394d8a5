use Rattle.std.proofs.Common.{deque_capacity}
use Rattle.host_queue.proofs.Sound.{sound_new}
use Rattle.host_queue.proofs.queue.HostQueue.new.Goals as goal

pub invariant_of-result : goal.invariant_of-result
invariant_of-result c = sound_new c.new.result.items (deque_capacity c.new.result) c.new.ensures.items

pub returns-clause-ordered : goal.returns-clause-ordered
returns-clause-ordered c = (invariant_of-result c).ordered
