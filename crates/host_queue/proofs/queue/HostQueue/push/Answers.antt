use Rattle.std.proofs.Common.{◌≢◌, ◌<◌, sym, subst, length, List, deque_capacity, arith}
use Rattle.std.specs.Option.{IfSome}
use Rattle.host_queue.specs.Queue.{Entry, Queue, IsPut}
use Rattle.host_queue.proofs.Sound.{sound_put}
use Rattle.host_queue.proofs.queue.HostQueue.push.Goals as goal

pub invariant_of-self-2 : goal.invariant_of-self-2
invariant_of-self-2 c =
    let e : Entry = (c.args.item, c.args.ordinal) in
    let before = c.self.inside.waiting in
    let between = c.reserve.new.self in
    let after = c.put.new.waiting in
    let put : IsPut e before.items after.items =
    subst (λ (l : List Entry). IsPut e l after.items) c.reserve.ensures.items c.put.ensures.put in
    let apart : IfSome c.self.inside.taken (λ at. at.1 ≢ c.args.ordinal) =
    subst (λ (q : Queue). IfSome q.taken (λ at. at.1 ≢ c.args.ordinal)) (sym c.self.view_is) c.requires.apart in
    let room : length after.items < deque_capacity after =
    omega (arith, between.ok.0, after.ok.0, c.in_ok-reserve.ensures.ok, c.put.ensures.len, c.put.ensures.capacity) in
    sound_put e before.items after.items (deque_capacity before) (deque_capacity after) c.self.inside.taken put c.self.invariant.out apart room
