use Rattle.polite_crawl.proofs.Events.{last_valid}
use Rattle.polite_crawl.proofs.Working.{readies, refuses}
use Rattle.polite_crawl.proofs.turn.work.Goals as goal

pub returns-in-Err-clause-in_time : goal.returns-in-Err-clause-in_time
returns-in-Err-clause-in_time g c = last_valid c.args.frontier.now.events c.requires.last.valid

pub returns-in-Err-record_of-clause-in_time : goal.returns-in-Err-record_of-clause-in_time
returns-in-Err-record_of-clause-in_time g c = last_valid c.args.frontier.now.events c.requires.last.valid

pub returns-clause-ready : goal.returns-clause-ready
returns-clause-ready g c =
    readies g.L.Link (g.C.Clock.gives c.args.clock.now) c.args.frontier.now c.args.emitted c.args.link.now c.process.new.link c.settings.result.now c.work.result.now c.in-Ok.done
    c.work.ensures c.settings.ensures c.in-Ok.ensures.same c.in-Ok.ensures.suits c.in-Ok.ensures.done
    c.args.place c.in-Ok-record_of.own.body c.in-Ok-record_of.own.bytes.items c.now.result c.in-Ok-record_of.ensures.is c.in-Ok-record_of.ensures.named c.now.ensures
    c.settle.new.frontier c.settle.result c.settle.ensures.settled

pub returns-clause-full : goal.returns-clause-full
returns-clause-full g c known adds e =
    refuses g.L.Link (g.C.Clock.gives c.args.clock.now) c.args.frontier.now c.args.emitted c.args.link.now c.process.new.link c.settings.result.now c.work.result.now c.in-Ok.done
    c.work.ensures c.settings.ensures c.in-Ok.ensures.same c.in-Ok.ensures.suits c.in-Ok.ensures.done
    c.args.place c.in-Ok-record_of.own.body c.in-Ok-record_of.own.bytes.items c.now.result c.in-Ok-record_of.ensures.is c.in-Ok-record_of.ensures.named c.now.ensures
    known adds (c.settle.ensures.full known adds e)
