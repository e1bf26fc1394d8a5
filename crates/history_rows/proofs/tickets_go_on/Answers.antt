use Rattle.std.proofs.Common.{refl}
use Rattle.history_rows.proofs.TicketsLegal.{tickets_legal}
use Rattle.history_rows.proofs.tickets_go_on.Goals as goal

pub returns : goal.returns
returns c =
    record {
      first = refl;
      needed = refl;
      second = refl;
      allowed = refl;
      snoozes = refl;
      third = refl;
      free = refl;
      out_waits = refl;
      out_queued = refl;
      not_over = refl;
      adds = refl;
      done = refl;
      robots_done = refl;
      link_waits = refl;
      nowhere = refl;
      legal = tickets_legal;
      complete = refl;
      polite = refl;
    }
