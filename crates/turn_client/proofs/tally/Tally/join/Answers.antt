use Rattle.std.proofs.Common.{◌<◌, ap, sym, ◌∙◌, subst}
use Rattle.turn_client.proofs.Tallies.{merges, tells}
use Rattle.turn_client.proofs.tally.Tally.join.Goals as goal

pub join_pass-requires-clause-rule : goal.join_pass-requires-clause-rule
join_pass-requires-clause-rule c = let k = c.args.part.now.knows in let l = c.args.next.knows in let both = c.requires.both in
    merges _ _ _ _ _ (subst (λ v. v.first < v.end) (sym k) both.0) (subst (λ v. v.first < v.end) (sym l) both.1) (ap (λ v. v.end) k ∙ c.requires.adjacent ∙ sym (ap (λ v. v.first) l))

pub learn-requires-clause-rule : goal.learn-requires-clause-rule
learn-requires-clause-rule c = tells _ _ _
