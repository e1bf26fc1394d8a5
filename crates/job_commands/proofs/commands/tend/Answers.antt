use Rattle.std.proofs.Common.{◌≡◌, ◌≢◌, ℕ, Ok, Err, ap, map, refl, sym, ◌∙◌, subst, arith}
use Rattle.std.specs.Prelude.{MatchResult}
use Rattle.std.specs.String.{string_bytes}
use Rattle.crawl_traits.specs.Causes.{Rose}
use Rattle.program_status.specs.declared.status.Status.TheVariants.{Usage}
use Rattle.job_commands.specs.Enqueue.{enqueue_causes}
use Rattle.job_commands.specs.Init.{init_causes}
use Rattle.job_commands.specs.Words.{read_of}
use Rattle.job_commands.specs.declared.words.Command.TheVariants.{Init, Enqueue}
use Rattle.job_commands.proofs.Caused.{never_usage}
use Rattle.job_commands.proofs.commands.tend.Goals as goal

pub returns-in-Ok-Init : goal.returns-in-Ok-Init
returns-in-Ok-Init g c =
    let status = c.init_command-status.result in
    let inits = c.init_command-status.ensures.inits in
    let read : read_of (map string_bytes c.args.words.now) ≡ Ok Init = sym c.read_words.ensures ∙ c.in-Ok-Init.is ∙ ap Ok c.in-Ok-Init.field-0-is in
    let causes = init_causes (Rose (g.V.Volume.faults c.args.volume) (g.V.Volume.faults c.init_command-status.new.volume)) (Rose (g.S.Source.faults c.args.job.now) (g.S.Source.faults c.init_command-status.new.job))
    (g.V.Volume.tells c.args.volume) (g.S.Source.tells c.args.job.now) (g.V.Volume.contents c.args.volume) (g.S.Source.left c.args.job.now) in
    record {
      usage = subst (λ r. MatchResult r (λ command. (i : ℕ) → status ≢ Usage i) (λ i. status ≡ Usage i)) (sym read) (never_usage causes status inits.caused);
      init = λ is. inits;
      enqueue = λ is. absurd (cc (read, is));
      ends = c.init_command-status.ensures.ends;
    }

pub returns-in-Ok-Enqueue : goal.returns-in-Ok-Enqueue
returns-in-Ok-Enqueue g c =
    let status = c.enqueue_command-status.result in
    let enqueues = c.enqueue_command-status.ensures.enqueues in
    let read : read_of (map string_bytes c.args.words.now) ≡ Ok Enqueue = sym c.read_words.ensures ∙ c.in-Ok-Enqueue.is ∙ ap Ok c.in-Ok-Enqueue.field-0-is in
    let causes = enqueue_causes (g.C.Clock.gives c.args.clock.now) (Rose (g.V.Volume.faults c.args.volume) (g.V.Volume.faults c.enqueue_command-status.new.volume)) (Rose (g.W.Sink.faults c.args.out) (g.W.Sink.faults c.enqueue_command-status.new.out)) (Rose (g.S.Source.faults c.args.job.now) (g.S.Source.faults c.enqueue_command-status.new.job))
    (g.V.Volume.tells c.args.volume) (g.S.Source.tells c.args.job.now) (g.V.Volume.contents c.args.volume) (g.V.Volume.contents c.enqueue_command-status.new.volume) (g.S.Source.left c.args.job.now) in
    record {
      usage = subst (λ r. MatchResult r (λ command. (i : ℕ) → status ≢ Usage i) (λ i. status ≡ Usage i)) (sym read) (never_usage causes status enqueues.caused);
      init = λ is. absurd (cc (read, is));
      enqueue = λ is. enqueues;
      ends = c.enqueue_command-status.ensures.ends;
    }

pub returns-in-Err : goal.returns-in-Err
returns-in-Err g c =
    let word = c.in-Err.word in
    let read : read_of (map string_bytes c.args.words.now) ≡ Err word = sym c.read_words.ensures ∙ c.in-Err.is in
    record {
      usage = subst (λ r. MatchResult r (λ command. (i : ℕ) → Usage word ≢ Usage i) (λ i. Usage word ≡ Usage i)) (sym read) refl;
      init = λ is. absurd (cc (read, is));
      enqueue = λ is. absurd (cc (read, is));
      ends = record {
        kept = λ early. refl;
        left = λ done. absurd (cc done);
        said = λ says told. c.say.ensures.said told;
        later = (omega arith, c.say.ensures.later, omega arith);
      };
    }
