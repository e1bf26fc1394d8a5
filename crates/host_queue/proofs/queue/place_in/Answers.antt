use Rattle.std.proofs.Common.{rules}
use Rattle.std.specs.Ordering.{is_lt}
use Rattle.std.proofs.lemmas.List.Sorted.{IsPartitionPoint-from_clause}
use Rattle.host_queue.proofs.Order.{order, partitioned, put_at}
use Rattle.host_queue.proofs.queue.place_in.Goals as goal

pub returns-clause-put : goal.returns-clause-put
returns-clause-put c =
    let xs = c.args.waiting.now.items in
    let e = c.args.entry.now in
    let point = IsPartitionPoint-from_clause (λ x. is_lt (order x e)) xs c.partition_point.result c.partition_point.ensures.partitioned (partitioned xs e c.requires.ordered) (λ a r q k. search rules) in
    put_at xs e c.partition_point.result c.requires.ordered c.requires.apart (search rules) point
