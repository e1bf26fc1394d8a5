use Rattle.std.proofs.Common.{refl}
use Rattle.history_rows.proofs.limits_stop.Goals as goal

pub returns : goal.returns
returns c =
    record {
      two_pages = refl;
      all_bytes = refl;
      pages_met = refl;
      pages_left = refl;
      bytes_met = refl;
      bytes_left = refl;
      seconds_met = refl;
      seconds_left = refl;
      out = refl;
    }
