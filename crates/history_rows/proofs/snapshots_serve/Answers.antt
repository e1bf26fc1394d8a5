use Rattle.std.proofs.Common.{refl}
use Rattle.history_rows.proofs.snapshots_serve.Goals as goal

pub returns : goal.returns
returns c =
    record {
      of_seeds = refl;
      of_taken = refl;
      of_two = refl;
      across = refl;
      again = refl;
      same_queue = refl;
      same_answer = refl;
      waits = refl;
    }
