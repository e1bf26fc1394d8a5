use Rattle.std.proofs.Common.{rules}
use Rattle.turn_lock.proofs.Keeps.{serves}
use Rattle.turn_lock.proofs.TurnLock.serve.Goals as goal

pub fetch_add-requires : goal.fetch_add-requires
fetch_add-requires g c = let h = c.requires.held in
    (c.requires.own, search rules, serves g.P.Protocol.count g.P.Protocol.may _ _ _ _ h.1.0 h.0 c.args.self.now.sized.1 h.1.1)
