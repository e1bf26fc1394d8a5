use Rattle.std.proofs.Common.{◌∙◌, sym, ap, not}
use Rattle.std.specs.FinSet as set
use Rattle.std.proofs.lemmas.Result.{err_from_is_err_and}
use Rattle.seen_set.proofs.Keys.{contains_is, insert_is}
use Rattle.seen_set.proofs.set.SeenSet.insert.Goals as goal

pub returns-in_err-insert-clause-absent : goal.returns-in_err-insert-clause-absent
returns-in_err-insert-clause-absent c =
    let failed = err_from_is_err_and c.from_residual.result c.from_residual.ensures.1 in
    rw failed.1 (
    ap (λ s. set.contains s c.args.key) (sym c.self.view_is)
    ∙ contains_is c.self.inside.keys.keys c.args.key
    ∙ c.in_err-insert.ensures.absent
    )

pub returns-clause-new : goal.returns-clause-new
returns-clause-new c =
    c.in_ok-insert.ensures.added
    ∙ ap not (sym (contains_is c.self.inside.keys.keys c.args.key) ∙ ap (λ s. set.contains s c.args.key) c.self.view_is)

pub returns-clause-ok : goal.returns-clause-ok
returns-clause-ok c =
    insert_is c.self.inside.keys.keys c.insert.new.self.keys c.args.key c.in_ok-insert.ensures.updates.0
    ∙ ap (λ s. set.insert s c.args.key) c.self.view_is
