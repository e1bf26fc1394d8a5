use Rattle.std.proofs.Common.{◌∙◌, List, ap, arith, length}
use Rattle.process_chains.specs.Ends.{world}
use Rattle.process_chains.specs.declared.steps.Step.{Step}
use Rattle.process_chains.proofs.Drafting.{place_at}
use Rattle.process_chains.proofs.Faults.{rose_by}
use Rattle.process_chains.proofs.Finishing.{ended_by, ready_by}
use Rattle.process_chains.proofs.chain.process.Goals as goal

pub loop-step-preserved : goal.loop-step-preserved
loop-step-preserved g c =
    let before = c.loop-step.invariant in
    let at = place_at c.fetch_chain-step-items.result.now c.loop-step.step-index c.fetch_chain-step-items.ensures c.loop-step-test.true in
    let past = c.in_ok-draft.ensures.past (omega (arith, at, before.past)) in
    record {
      stands = c.in_ok-draft.ensures.stands c.args.link.now before.stands;
      past = omega (arith, at, past);
      untouched = λ none. c.take_step.ensures.untouched none ∙ before.untouched none;
      tells = c.take_step.ensures.tells ∙ before.tells;
      later = λ fault. omega (arith, before.later fault, c.take_step.ensures.later fault);
    }

pub finished-requires : goal.finished-requires
finished-requires g c =
    let at_end = c.loop-step.invariant in
    let long = ap (λ (l : List Step). length l) c.fetch_chain-step-items.ensures in
    ready_by g.L.Link (g.C.Clock.gives c.args.clock.now) c.args.settings.now c.args.work.now c.args.link.now c.loop-step.link c.loop-step.draft
    (omega (arith, c.try_of.ensures.is, c.try_of.ensures.small)) at_end.stands
    (omega (arith, long, c.loop-step-test.false, at_end.past))

pub returns-clause-suits : goal.returns-clause-suits
returns-clause-suits g c =
    ended_by g.L.Link (g.C.Clock.gives c.args.clock.now) c.args.settings.now c.args.work.now c.args.link.now c.loop-step.link c.loop-step.draft c.in_ok-done.done
    c.loop-step.invariant.stands c.in_ok-done.ensures

pub returns-clause-faults : goal.returns-clause-faults
returns-clause-faults g c fault named =
    rose_by (world g.L.Link (g.C.Clock.gives c.args.clock.now) c.args.settings.now c.args.link.now c.loop-step.link) c.args.work.now
    (g.L.Link.exchanges c.args.link.now) (g.L.Link.exchanges c.loop-step.link) c.in_ok-done.done.ending c.in_ok-done.done.reply
    (ended_by g.L.Link (g.C.Clock.gives c.args.clock.now) c.args.settings.now c.args.work.now c.args.link.now c.loop-step.link c.loop-step.draft c.in_ok-done.done
    c.loop-step.invariant.stands c.in_ok-done.ensures) fault named
