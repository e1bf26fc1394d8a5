use Rattle.std.proofs.Common.{◌≢◌, Err, refl, ap, ◌∙◌, subst, arith}
use Rattle.crawl_traits.specs.Causes.{Rose}
use Rattle.program_status.specs.Gains.{Gains}
use Rattle.program_status.specs.Status.{status_text}
use Rattle.program_status.specs.declared.status.Status.TheVariants.{Done}
use Rattle.job_commands.specs.Enqueue.{enqueue_causes}
use Rattle.job_commands.proofs.Caused.{never_done, not_of_sink, rose_after, rose_before, said_caused}
use Rattle.job_commands.proofs.Said.{front_stays, gains_from}
use Rattle.job_commands.proofs.commands.enqueue_command.Goals as goal

pub returns-in-Ok-clause-ends : goal.returns-in-Ok-clause-ends
returns-in-Ok-clause-ends g c = record {
  kept = λ early. absurd early;
  left = λ done told. c.in-Ok.ensures.left told;
  said = λ says. absurd says;
  later = c.in-Ok.ensures.later;
}

pub returns-in-Ok-clause-enqueues : goal.returns-in-Ok-clause-enqueues
returns-in-Ok-clause-enqueues g c = record {
  done = λ is. c.in-Ok.ensures.done;
  unshown = λ is. absurd (cc is);
  caused = λ other. absurd (other refl);
  any_moment = c.in-Ok.ensures.any_moment;
}

pub returns-in-Err-clause-ends : goal.returns-in-Err-clause-ends
returns-in-Err-clause-ends g c =
    let out = g.W.Sink in
    let other : c.in-Err.status ≢ Done =
    never_done (enqueue_causes (g.C.Clock.gives c.args.clock.now) (Rose (g.V.Volume.faults c.args.volume.now) (g.V.Volume.faults c.enqueue.new.volume)) (Rose (out.faults c.args.out.now) (out.faults c.enqueue.new.out)) (Rose (g.S.Source.faults c.args.job.now) (g.S.Source.faults c.enqueue.new.source))
    (g.V.Volume.tells c.args.volume.now) (g.S.Source.tells c.args.job.now) (g.V.Volume.contents c.args.volume.now) (g.V.Volume.contents c.enqueue.new.volume) (g.S.Source.left c.args.job.now)) c.in-Err.status c.in-Err.ensures.caused in
    record {
      kept = c.in-Err.ensures.kept;
      left = λ done. absurd (other done);
      said = λ says told.
          gains_from (Rose (out.faults c.enqueue.new.out) (out.faults c.say.new.out)) (Rose (out.faults c.args.out.now) (out.faults c.say.new.out)) (out.written c.args.out.now) (out.written c.enqueue.new.out) (out.written c.say.new.out) (status_text c.in-Err.status)
          (c.in-Err.ensures.silent (not_of_sink c.in-Err.status says)) (rose_before (out.faults c.args.out.now) (out.faults c.enqueue.new.out) (out.faults c.say.new.out) c.in-Err.ensures.later.1)
          (c.say.ensures.said (c.in-Err.ensures.tells ∙ told));
      later = (c.in-Err.ensures.later.0, omega (arith, c.in-Err.ensures.later.1, c.say.ensures.later), c.in-Err.ensures.later.2);
    }

pub returns-in-Err-clause-enqueues : goal.returns-in-Err-clause-enqueues
returns-in-Err-clause-enqueues g c =
    let out = g.W.Sink in
    let gives = g.C.Clock.gives c.args.clock.now in
    let rose = Rose (g.V.Volume.faults c.args.volume.now) (g.V.Volume.faults c.enqueue.new.volume) in
    let source = Rose (g.S.Source.faults c.args.job.now) (g.S.Source.faults c.enqueue.new.source) in
    let sink = Rose (out.faults c.args.out.now) (out.faults c.enqueue.new.out) in
    let other : c.in-Err.status ≢ Done =
    never_done (enqueue_causes gives rose sink source
    (g.V.Volume.tells c.args.volume.now) (g.S.Source.tells c.args.job.now) (g.V.Volume.contents c.args.volume.now) (g.V.Volume.contents c.enqueue.new.volume) (g.S.Source.left c.args.job.now)) c.in-Err.status c.in-Err.ensures.caused in
    record {
      done = λ is. absurd (other is);
      unshown = λ is told_text told told_out.
          let front = c.in-Err.ensures.unshown told_text told told_out (ap Err is) in (
            front.0,
            front.1,
            front_stays (Rose (out.faults c.enqueue.new.out) (out.faults c.say.new.out)) (out.written c.args.out.now) (out.written c.enqueue.new.out) (out.written c.say.new.out) front.0 front.2
                (subst (λ s. Gains (Rose (out.faults c.enqueue.new.out) (out.faults c.say.new.out)) (out.written c.enqueue.new.out) (out.written c.say.new.out) (status_text s)) is (c.say.ensures.said (c.in-Err.ensures.tells ∙ told_out))),
          );
      caused = λ not_done.
          said_caused gives c.in-Err.status rose sink source (g.V.Volume.tells c.args.volume.now) (g.S.Source.tells c.args.job.now) (g.V.Volume.contents c.args.volume.now) (g.V.Volume.contents c.enqueue.new.volume) (g.S.Source.left c.args.job.now)
          (Rose (out.faults c.args.out.now) (out.faults c.say.new.out)) (λ x. rose_after (out.faults c.args.out.now) (out.faults c.enqueue.new.out) (out.faults c.say.new.out) x c.say.ensures.later) c.in-Err.ensures.caused;
      any_moment = c.in-Err.ensures.any_moment;
    }
