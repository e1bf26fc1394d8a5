use Rattle.std.proofs.Common.{◌≤◌, ◌∙◌, ap, subst, sym, arith, length, List}
use Rattle.crawl_kinds.specs.declared.event.TheConstants.{MAX_MS}
use Rattle.extract_spec.specs.declared.found.Found.{Found}
use Rattle.crawl_history.specs.History.{history_of, last_time}
use Rattle.frontier_core.specs.Core.{Core}
use Rattle.polite_crawl.proofs.Events.{last_valid}
use Rattle.polite_crawl.proofs.Settling.{settles, turn_fits, turn_is}
use Rattle.polite_crawl.proofs.turn.settle.Goals as goal

pub returns-in_err-event-clause-in_time : goal.returns-in_err-event-clause-in_time
returns-in_err-event-clause-in_time c =
    subst (λ (core : Core). last_time (history_of core.events) ≤ MAX_MS) (sym c.in_err-event.ensures.err) (last_valid c.args.frontier.now.events c.requires.last.valid)

pub block_of-requires : goal.block_of-requires
block_of-requires c =
    let valid = c.in_ok-event.ensures.valid c.requires.last.valid (c.end_with-end.ensures.valid c.requires.tries c.requires.some c.requires.named) in
    turn_fits c.args.frontier.now c.finish.new.self c.args.emitted c.args.done.now c.args.own.body c.end_with-end.result c.args.now c.in_ok-event.event c.requires.last c.end_with-end.ensures.is c.in_ok-event.ensures.ended _ c.as_slice-links.result.now
    (turn_is c.args.frontier.now c.finish.new.self c.args.emitted c.args.done.now c.args.own.body c.end_with-end.result c.args.now c.in_ok-event.event c.requires.last c.end_with-end.ensures.is c.in_ok-event.ensures.ended c.events.result.now c.events-2.result.now c.events.ensures c.events-2.ensures)
    valid c.in_ok-event.ensures.few (omega (arith, c.as_slice-links.ensures.few, ap (λ (l : List Found). length l) c.as_slice-links.ensures.same))

pub returns-clause-settled : goal.returns-clause-settled
returns-clause-settled c =
    let valid = c.in_ok-event.ensures.valid c.requires.last.valid (c.end_with-end.ensures.valid c.requires.tries c.requires.some c.requires.named) in
    settles c.args.frontier.now c.finish.new.self c.args.emitted c.args.done.now c.args.own.body c.end_with-end.result c.args.now c.in_ok-event.event c.requires.last c.end_with-end.ensures.is c.in_ok-event.ensures.ended c.as_slice-links.result.now c.payload.result.now _
    (c.as_slice-links.ensures.same ∙ c.links.ensures.same) c.payload.ensures c.in_ok-event.ensures.finished valid _
    (turn_is c.args.frontier.now c.finish.new.self c.args.emitted c.args.done.now c.args.own.body c.end_with-end.result c.args.now c.in_ok-event.event c.requires.last c.end_with-end.ensures.is c.in_ok-event.ensures.ended c.events.result.now c.events-2.result.now c.events.ensures c.events-2.ensures)
    c.in_ok-frame.ensures c.in_ok-line.ensures
