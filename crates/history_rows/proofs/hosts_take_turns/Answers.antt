use Rattle.std.proofs.Common.{refl}
use Rattle.history_rows.proofs.TwoHostsLegal.{hosts_legal}
use Rattle.history_rows.proofs.hosts_take_turns.Goals as goal

pub returns : goal.returns
returns c =
    record {
      first = refl;
      also_first = refl;
      wake_a = refl;
      wake_b = refl;
      second = refl;
      needed = refl;
      third = refl;
      fourth = refl;
      also_fourth = refl;
      legal = hosts_legal;
    }
