use Rattle.std.proofs.Common.{rules, [], ◌∷◌, sym, subst}
use Rattle.turn_lock.proofs.Keeps.{opens}
use Rattle.turn_lock.proofs.TurnLock.new.Goals as goal

pub new-requires : goal.new-requires
new-requires g c = let start = c.of-about.result.value in
    let begins : g.P.Protocol.holds start c.args.value (g.P.Protocol.first start ∷ []) = subst (λ v. g.P.Protocol.holds v c.args.value (g.P.Protocol.first v ∷ [])) (sym c.of-about.ensures) c.requires.rule in
    opens g.P.Protocol.count g.P.Protocol.may (g.P.Protocol.holds start) c.args.value c.args.count _ _ c.ranges.count.fits c.requires.count (search rules) begins
