use Rattle.std.proofs.Common.{refl}
use Rattle.history_rows.proofs.BudgetLegal.{budget_legal}
use Rattle.history_rows.proofs.budget_retires.Goals as goal

pub returns : goal.returns
returns c =
    record {
      keeps_turn = refl;
      spends = refl;
      active = refl;
      third = refl;
      spent = refl;
      retired = refl;
      waiting = refl;
      over = refl;
      without = refl;
      legal = budget_legal;
      complete = refl;
      polite = refl;
    }
