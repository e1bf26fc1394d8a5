use Rattle.std.proofs.Common.{refl}
use Rattle.history_rows.proofs.robots_decide.Goals as goal

pub returns : goal.returns
returns c =
    record {
      missing = refl;
      permits = refl;
      forbidden = refl;
      delay = refl;
      fault = refl;
      last_moment = refl;
      a_day_later = refl;
      follows = refl;
      goes_first = refl;
      away = refl;
      away_allowed = refl;
      secure = refl;
    }
