use Rattle.std.proofs.Common.{◌<◌, length}
use Rattle.std.specs.Prelude.{IsTrue}
use Rattle.crawl_traits.specs.Causes.{Rose}
use Rattle.seed_list.specs.Bad.{most_text}
use Rattle.job_commands.specs.Causes.{IsTooLong}
use Rattle.job_commands.specs.Init.{IsNamedRefusal}
use Rattle.job_commands.proofs.Caused.{source_caused, too_long_job}
use Rattle.job_commands.proofs.init.take_job.Goals as goal

pub returns-in-Err-clause-fault : goal.returns-in-Err-clause-fault
returns-in-Err-clause-fault g c =
    let left = g.S.Source.left c.args.source.now in
    source_caused c.in-Err.status (Rose (g.S.Source.faults c.args.source.now) (g.S.Source.faults c.read_text.new.source))
    (IsTooLong (IsTrue (g.S.Source.tells c.args.source.now) → most_text < length left)) (λ f. IsTrue (g.S.Source.tells c.args.source.now) → IsNamedRefusal left f)
    (too_long_job (IsTrue (g.S.Source.tells c.args.source.now)) left) c.in-Err.ensures.fault
