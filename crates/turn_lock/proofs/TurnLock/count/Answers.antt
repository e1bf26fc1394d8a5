use Rattle.std.proofs.Common.{rules}
use Rattle.turn_lock.proofs.Keeps.{counts}
use Rattle.turn_lock.proofs.TurnLock.count.Goals as goal

pub fetch_add-requires : goal.fetch_add-requires
fetch_add-requires g c = let h = c.requires.held in
    (c.requires.own, search rules, counts g.P.Protocol.count g.P.Protocol.may _ g.M.Outcome.then _ _ _ c.args.more h.2.0 h.0 h.1 h.2.1 h.3 h.4)

pub returns-clause-counted : goal.returns-clause-counted
returns-clause-counted g c = λ x y has. let t = c.fetch_add.ensures.2 has.0 x y has.1 in ((has.0, t.0), t.1)
