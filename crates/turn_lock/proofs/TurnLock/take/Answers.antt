use Rattle.std.proofs.Common.{rules, ap, ◌∙◌}
use Rattle.turn_lock.proofs.Keeps.{draws, looks}
use Rattle.turn_lock.proofs.TurnLock.take.Goals as goal

pub fetch_add-turn-requires : goal.fetch_add-turn-requires
fetch_add-turn-requires g c = (c.requires.own, search rules, draws g.P.Protocol.count g.P.Protocol.may _ _ _ _ c.requires.idle.0.0 c.requires.idle.1)

pub load-requires : goal.load-requires
load-requires g c = let i = c.loop.invariant in let d = c.fetch_add-turn.ensures in let t = d.2 in (
  i.0 ∙ d.0 ∙ c.requires.own,
  search rules,
  looks g.P.Protocol.count g.P.Protocol.may _ g.P.Protocol.name c.requires.few _ _ _ t.0 (ap (λ m. m.0.stage) (i.2 ∙ t.2)) (ap (λ m. m.1) (i.2 ∙ t.2) ∙ c.requires.idle.0.1),
)
