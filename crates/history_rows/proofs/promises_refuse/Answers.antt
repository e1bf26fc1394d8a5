use Rattle.std.proofs.Common.{refl}
use Rattle.history_rows.proofs.promises_refuse.Goals as goal

pub returns : goal.returns
returns c =
    record {
      lost = refl;
      early = refl;
      twice = refl;
      early_again = refl;
      in_time = refl;
    }
