use Rattle.std.proofs.Common.{◌≢◌, refl, arith}
use Rattle.crawl_traits.specs.Causes.{Rose}
use Rattle.program_status.specs.declared.status.Status.TheVariants.{Done}
use Rattle.job_commands.specs.Init.{init_causes}
use Rattle.job_commands.proofs.Caused.{never_done}
use Rattle.job_commands.proofs.commands.init_command.Goals as goal

pub returns-in-Ok-clause-ends : goal.returns-in-Ok-clause-ends
returns-in-Ok-clause-ends g c = record {
  kept = λ early. absurd early;
  left = λ done told. c.in-Ok.ensures.left told;
  said = λ says. absurd says;
  later = (c.in-Ok.ensures.later.0, omega arith, c.in-Ok.ensures.later.1);
}

pub returns-in-Ok-clause-inits : goal.returns-in-Ok-clause-inits
returns-in-Ok-clause-inits g c = record {
  done = λ is. c.in-Ok.ensures.done;
  caused = λ other. absurd (other refl);
  silent = λ is. refl;
  any_moment = c.in-Ok.ensures.any_moment;
}

pub returns-in-Err-clause-ends : goal.returns-in-Err-clause-ends
returns-in-Err-clause-ends g c =
    let other : c.in-Err.status ≢ Done =
    never_done (init_causes (Rose (g.V.Volume.faults c.args.volume.now) (g.V.Volume.faults c.init.new.volume)) (Rose (g.S.Source.faults c.args.job.now) (g.S.Source.faults c.init.new.source))
    (g.V.Volume.tells c.args.volume.now) (g.S.Source.tells c.args.job.now) (g.V.Volume.contents c.args.volume.now) (g.S.Source.left c.args.job.now)) c.in-Err.status c.in-Err.ensures.caused in
    record {
      kept = c.in-Err.ensures.kept;
      left = λ done. absurd (other done);
      said = λ says told. c.say.ensures.said told;
      later = (c.in-Err.ensures.later.0, c.say.ensures.later, c.in-Err.ensures.later.1);
    }

pub returns-in-Err-clause-inits : goal.returns-in-Err-clause-inits
returns-in-Err-clause-inits g c =
    let other : c.in-Err.status ≢ Done =
    never_done (init_causes (Rose (g.V.Volume.faults c.args.volume.now) (g.V.Volume.faults c.init.new.volume)) (Rose (g.S.Source.faults c.args.job.now) (g.S.Source.faults c.init.new.source))
    (g.V.Volume.tells c.args.volume.now) (g.S.Source.tells c.args.job.now) (g.V.Volume.contents c.args.volume.now) (g.S.Source.left c.args.job.now)) c.in-Err.status c.in-Err.ensures.caused in
    record {
      done = λ is. absurd (other is);
      caused = λ not_done. c.in-Err.ensures.caused;
      silent = λ is. absurd (other is);
      any_moment = c.in-Err.ensures.any_moment;
    }
