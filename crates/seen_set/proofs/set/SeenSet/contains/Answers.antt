use Rattle.std.proofs.Common.{◌∙◌, sym, ap}
use Rattle.std.specs.FinSet as set
use Rattle.seen_set.proofs.Keys.{contains_is}
use Rattle.seen_set.proofs.set.SeenSet.contains.Goals as goal

pub returns : goal.returns
returns c =
    c.contains.ensures
    ∙ sym (contains_is c.self.inside.keys.keys c.args.key.now)
    ∙ ap (λ s. set.contains s c.args.key.now) c.self.view_is
