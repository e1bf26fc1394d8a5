use Rattle.std.proofs.Common.{ap, Err}
use Rattle.process_chains.proofs.Drafting.{fault_stands, reply_stands}
use Rattle.process_chains.proofs.fetching.fetched.Goals as goal

pub returns-in-Ok-clause-stands : goal.returns-in-Ok-clause-stands
returns-in-Ok-clause-stands g c =
    reply_stands g.L.Link (g.C.Clock.gives c.args.clock.now) c.args.settings.now c.args.work.now c.args.link.now c.fetch.new.link c.requires.allowed c.in-Ok.ensures.shut
    c.in-Ok.fetched.span c.in-Ok.ensures.span c.outcome.result c.in-Ok.fetched.request c.in-Ok.fetched.reply c.outcome.ensures
    c.in-Ok.ensures.request c.in-Ok.ensures.reply c.in-Ok.ensures.exchange

pub returns-in-Err-Link-clause-stands : goal.returns-in-Err-Link-clause-stands
returns-in-Err-Link-clause-stands g c =
    let stop = ap (λ s. Err s) c.in-Err-Link.field-0-is in
    fault_stands g.L.Link (g.C.Clock.gives c.args.clock.now) c.args.settings.now c.args.work.now c.args.link.now c.fetch.new.link c.requires.allowed
    (c.in-Err-Link.ensures.stop_shut c.in-Err-Link.fault c.in-Err-Link.span stop) c.in-Err-Link.span (c.in-Err-Link.ensures.stop_span c.in-Err-Link.fault c.in-Err-Link.span stop)
    c.faulty.result c.in-Err-Link.fault c.faulty.ensures (c.in-Err-Link.ensures.failed c.in-Err-Link.fault c.in-Err-Link.span stop) c.in-Err-Link.ensures.begun
