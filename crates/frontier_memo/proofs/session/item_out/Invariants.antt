use Rattle.std.proofs.Common.{◌≡◌, ◌==◌, drop}
use Rattle.std.specs.Prelude.{find}
use Rattle.frontier_memo.specs.declared.session.Out.{Out}
use Rattle.frontier_memo.proofs.session.item_out.Given as goal

abbrev pub invariant-loop-one : goal.invariant-loop-one
invariant-loop-one l = find (λ (o : Out). o.ticket == l.ticket) l.out ≡ find (λ (o : Out). o.ticket == l.ticket) (drop l.one-index l.out)
