use Rattle.std.proofs.Common.{ℕ, ◌+◌, ap, ◌∙◌}
use Rattle.turn_client.proofs.Tallies.{ends}
use Rattle.turn_client.proofs.tally.Tally.close.Goals as goal

pub returns : goal.returns
returns c = let k = c.args.part.knows in let all = c.requires.all in let start : ℕ = c.args.self.lock.table.shared.key.value in
    ends start _ _ c.close.result (ap (λ v. v.first) k ∙ all.0) (ap (λ v. v.end) k ∙ all.1) c.close.ensures ∙ ap (λ v. start + v.made) k
