use Rattle.std.proofs.Common.{refl}
use Rattle.history_rows.proofs.least_goes.Goals as goal

pub returns : goal.returns
returns c =
    record {
      waiting = refl;
      last = refl;
      by_wake = refl;
      by_class = refl;
      by_rank = refl;
      by_ordinal = refl;
      later = refl;
      itself = refl;
      closed = refl;
      free = refl;
      answered = refl;
    }
