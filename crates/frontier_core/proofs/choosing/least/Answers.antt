use Rattle.std.proofs.Common.{List, [], ◌∷◌, ◌++◌, append_assoc, sym, ap, ◌∙◌, subst, Option}
use Rattle.frontier_core.specs.Choosing.{kept_wake, IsLeast}
use Rattle.frontier_core.specs.declared.choosing.Choice.{Choice}
use Rattle.frontier_memo.specs.Sums.{class_at}
use Rattle.frontier_memo.specs.declared.known.Known.{Known}
use Rattle.frontier_core.proofs.Firsts.{least_more}
use Rattle.frontier_core.proofs.choosing.least.Goals as goal

pub loop-known-init : goal.loop-known-init
loop-known-init c = record { front = []; whole = c.into_iter-known-iterator.ensures.into_iter_gives ∙ c.values-known-items.ensures.rest; least = λ h is. tt }

pub loop-known-preserved : goal.loop-known-preserved
loop-known-preserved c =
    let front : List Known = c.loop-known.invariant.front in
    let k : Known = c.in-Some.known.now in
    record {
      front = front ++ k ∷ [];
      whole = append_assoc front (k ∷ []) c.next.new.self ∙ ap (λ (l : List Known). front ++ l) (sym c.in-Some.ensures.steps) ∙ c.loop-known.invariant.whole;
      least = λ h is.
          subst (λ (o : Option Choice). IsLeast c.args.settings.now (kept_wake c.args.settings.now c.args.memo.now.session (class_at c.args.robots.now)) h (front ++ k ∷ []) o) (sym c.first_of-best.ensures)
          (least_more c.args.settings.now (kept_wake c.args.settings.now c.args.memo.now.session (class_at c.args.robots.now)) h front k c.loop-known.best c.candidate.result
          (c.loop-known.invariant.least h is) (c.candidate.ensures h is));
    }
