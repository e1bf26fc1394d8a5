use Rattle.std.proofs.Common.{refl}
use Rattle.history_rows.proofs.RetriesLegal.{retries_legal}
use Rattle.history_rows.proofs.retries_count.Goals as goal

pub returns : goal.returns
returns c =
    record {
      slow_wake = refl;
      slow_not_yet = refl;
      slow_goes = refl;
      needed = refl;
      tried = refl;
      waits = refl;
      not_yet = refl;
      goes = refl;
      done = refl;
      unreachable = refl;
      page_goes = refl;
      costs_nothing = refl;
      legal = retries_legal;
    }
