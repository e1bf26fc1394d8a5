use Rattle.std.proofs.Common.{ℤ, Option, None, ap, ◌∙◌, sym, refl}
use Rattle.frontier_memo.specs.Keeping.{known_at}
use Rattle.frontier_memo.specs.Undoing.{undone}
use Rattle.frontier_memo.proofs.Maps.{written}
use Rattle.frontier_memo.proofs.places.undo.Goals as goal

pub returns-in-None : goal.returns-in-None
returns-in-None c key =
    written c.args.places.now c.remove.new.self c.args.item.now.key c.args.item.now.key None refl c.remove.ensures.updates key
    ∙ ap (λ (code : Option ℤ). undone c.args.item.now code key (known_at c.args.places.now key)) (sym c.in-None.is)
