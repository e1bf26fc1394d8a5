use Rattle.std.proofs.Common.{◌≡◌, ◌<◌, All, None}
use Rattle.job_cases.proofs.queue.queue_of.Given as goal

abbrev pub invariant-loop-i : goal.invariant-loop-i
invariant-loop-i l = (l.queue.taken ≡ None) × All (λ entry. entry.1 < l.i) l.queue.waiting
