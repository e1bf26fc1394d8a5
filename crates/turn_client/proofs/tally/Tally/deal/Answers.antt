use Rattle.std.proofs.Common.{◌+◌, ◌<◌, ◌≤◌, sym, subst}
use Rattle.turn_client.specs.Shares.{dealt_room}
use Rattle.turn_client.proofs.Tallies.{forks}
use Rattle.turn_client.proofs.tally.Tally.deal.Goals as goal

pub split_pass-pass-requires-clause-rule : goal.split_pass-pass-requires-clause-rule
split_pass-pass-requires-clause-rule c = forks _ _ _ (subst (λ v. v.first + 1 < v.end) (sym c.args.part.now.knows) c.requires.two) (subst (λ v. dealt_room ≤ v.left) (sym c.args.part.now.knows) c.requires.room)
