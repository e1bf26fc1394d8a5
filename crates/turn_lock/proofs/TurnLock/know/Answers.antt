use Rattle.std.proofs.Common.{rules}
use Rattle.turn_lock.proofs.Keeps.{knows}
use Rattle.turn_lock.proofs.TurnLock.know.Goals as goal

pub load-requires : goal.load-requires
load-requires g c = (c.requires.own, search rules, knows g.P.Protocol.count g.P.Protocol.may _ g.M.Insight.told _ _ _ c.requires.rule)

pub returns-clause-told : goal.returns-clause-told
returns-clause-told g c = λ x y has. c.load.ensures.2.1 has.0 x y has.1
