use Rattle.std.proofs.Common.{◌∙◌, sym, ap}
use Rattle.std.specs.FinSet as set
use Rattle.seen_set.proofs.Keys.{len_is}
use Rattle.seen_set.proofs.set.SeenSet.len.Goals as goal

pub returns : goal.returns
returns c =
    c.len.ensures.len
    ∙ sym (len_is c.self.inside.keys.keys c.len.ensures.ordered)
    ∙ ap (λ s. set.len s) c.self.view_is
