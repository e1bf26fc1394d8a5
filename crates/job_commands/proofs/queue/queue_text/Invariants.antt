use Rattle.std.proofs.Common.{◌≡◌, take}
use Rattle.std.specs.List.{flat_map}
use Rattle.job_commands.specs.Queue.{queue_line}
use Rattle.job_commands.proofs.queue.queue_text.Given as goal

abbrev pub invariant-loop-item : goal.invariant-loop-item
invariant-loop-item l = l.text.items ≡ flat_map queue_line (take l.item-index l.queue)
