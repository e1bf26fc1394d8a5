use Rattle.std.proofs.Common.{rules}
use Rattle.turn_lock.proofs.Keeps.{joins}
use Rattle.turn_lock.proofs.TurnLock.join_pass.Goals as goal

pub join_seat-requires : goal.join_seat-requires
join_seat-requires g c = (c.requires.own.0, c.requires.own.1, c.requires.idle.1.1, search rules, joins g.P.Protocol.count g.P.Protocol.may _ _ _ _ _ _ _ c.requires.idle.0.0 c.requires.idle.1.0 c.requires.rule)
