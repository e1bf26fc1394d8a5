use Rattle.std.proofs.Common.{◌≡◌, take}
use Rattle.crawl_history.specs.History.{history_of, last_time}
use Rattle.open_crawl.proofs.begin.last_time.Given as goal

abbrev pub invariant-loop-event : goal.invariant-loop-event
invariant-loop-event l = l.time ≡ last_time (history_of (take l.event-index l.events))
