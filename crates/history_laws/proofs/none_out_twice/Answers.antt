use Rattle.std.proofs.Common.{zero-le, []}
use Rattle.crawl_history.specs.History.{history_of, history_from}
use Rattle.history_laws.proofs.Alone.{alone-along}
use Rattle.history_laws.proofs.none_out_twice.Goals as goal

pub returns : goal.returns
returns c =
    record {
      legal = λ f a events steps. alone-along f a (history_of []) events (λ k. zero-le) steps;
      from_snapshot = λ f a base events steps. alone-along f a (history_from base []) events (λ k. zero-le) steps;
    }
