use Rattle.std.proofs.Common.{sym, ap, ◌∙◌, subst}
use mathlib.Core.Option.{some-injective}
use lib.ListN.{get_elem?}
use Rattle.turn_lock.specs.Duties.{Ends}
use Rattle.turn_lock.proofs.Keeps.{rests}
use Rattle.turn_lock.proofs.TurnLock.close.Goals as goal

pub returns : goal.returns
returns g c = let f = c.close_with-closed.ensures.values.2 in let pass = c.args.pass in
    let holds = g.P.Protocol.holds c.args.self.table.shared.key.value in
    let t = rests g.P.Protocol.count g.P.Protocol.may holds pass.id pass.me.0 c.requires.idle.0 c.requires.alone f.0 f.1 in
    let there = f.4 0 t.0 (ap (λ l. get_elem? l 0) t.1) in
    subst (Ends holds pass.id pass.me.0.client) (some-injective _ _ (sym there ∙ c.take-value.ensures.value)) t.2
