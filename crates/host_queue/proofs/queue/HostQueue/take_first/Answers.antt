use Rattle.std.proofs.Common.{arith, deque_capacity, subst}
use Rattle.host_queue.specs.Queue.{Queue, IsInOrder}
use Rattle.host_queue.proofs.Sound.{sound_taken}
use Rattle.host_queue.proofs.queue.HostQueue.take_first.Goals as goal

pub invariant_of-self-2 : goal.invariant_of-self-2
invariant_of-self-2 c =
    sound_taken c.in_ok-entry.entry c.self.inside.waiting.items c.pop_front.new.self.items (deque_capacity c.pop_front.new.self) c.self.invariant.ordered c.in_ok-entry.ensures.items (
    let before = c.self.inside.waiting in
    let after = c.pop_front.new.self in
    omega (arith, before.small.1, before.ok.0, after.ok.0, c.pop_front.ensures.capacity, c.in_ok-entry.ensures.len)
    )

pub returns-clause-ordered : goal.returns-clause-ordered
returns-clause-ordered c =
    (subst (λ (q : Queue). IsInOrder q.waiting) c.self.view_is c.self.invariant.ordered, (invariant_of-self-2 c).ordered)
