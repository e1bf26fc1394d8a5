use Rattle.std.proofs.Common.{refl}
use Rattle.history_rows.proofs.SessionsLegal.{sessions_legal}
use Rattle.history_rows.proofs.sessions_begin_anew.Goals as goal

pub returns : goal.returns
returns c =
    record {
      forgets = refl;
      waits = refl;
      wakes = refl;
      not_yet = refl;
      goes = refl;
      needed = refl;
      tickets_go_on = refl;
      was_done = refl;
      waits_again = refl;
      ordinals = refl;
      robots_first = refl;
      legal = sessions_legal;
    }
