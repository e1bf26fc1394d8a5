use Rattle.std.proofs.Common.{rules}
use Rattle.turn_lock.proofs.Keeps.{learns}
use Rattle.turn_lock.proofs.TurnLock.learn.Goals as goal

pub load-requires : goal.load-requires
load-requires g c = (c.requires.own, search rules, learns g.P.Protocol.count g.P.Protocol.may _ g.M.Lesson.fact _ _ _ c.requires.rule)
