use Rattle.crawl_history.specs.History.{empty_snapshot}
use Rattle.history_laws.proofs.Completeness.{times_queued-waiting, queued_once-from, nothing-waits}
use Rattle.history_laws.proofs.Keeping.{times_queued-not_waiting}
use Rattle.history_laws.proofs.Snapshots.{snapshot_of-once}
use Rattle.history_laws.proofs.queues_hold_once.Goals as goal

pub returns : goal.returns
returns c =
    record {
      none = times_queued-not_waiting;
      once = times_queued-waiting;
      legal = λ f a events legal. queued_once-from f a empty_snapshot events nothing-waits legal;
      from_snapshot = queued_once-from;
      snapshot = snapshot_of-once;
    }
