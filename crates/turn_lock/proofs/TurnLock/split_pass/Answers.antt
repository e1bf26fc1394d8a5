use Rattle.std.proofs.Common.{rules}
use Rattle.turn_lock.proofs.Keeps.{splits}
use Rattle.turn_lock.proofs.TurnLock.split_pass.Goals as goal

pub split_seat-requires : goal.split_seat-requires
split_seat-requires g c = (c.requires.own, search rules, splits g.P.Protocol.count g.P.Protocol.may _ _ _ _ _ c.requires.idle.0 c.requires.rule)
