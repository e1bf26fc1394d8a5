use Rattle.std.proofs.Common.{◌≡◌, ◌∷◌, refl, ◌∙◌}
use Rattle.std.proofs.lemmas.Result.{err_from_is_err_and}
use Rattle.seed_list.specs.declared.fault.LineFault.TheVariants.{Refused}
use Rattle.seed_list.specs.Lines.{plus_sign}
use Rattle.seed_list.proofs.LineKinds.{prefix_of_marked, refused_prefix}
use Rattle.seed_list.proofs.Steps.{answer_refusal, answer_some, list_prefix}
use Rattle.seed_list.proofs.list.add_prefix.Goals as goal

pub returns-in_err-prefix-clause-refused : goal.returns-in_err-prefix-clause-refused
returns-in_err-prefix-clause-refused c = λ h.
    let p = err_from_is_err_and c.from_residual.result c.from_residual.ensures.1 in
    let fault : c.in_err-prefix.field-0.0 ≡ Refused = cc (p.1, p.2, h) in
    let none = answer_refusal _ _ fault c.in_err-prefix.ensures in
    refused_prefix (plus_sign ∷ c.args.rest.now) refl (prefix_of_marked c.args.rest.now ∙ none)

pub returns-clause-ok : goal.returns-clause-ok
returns-clause-ok c =
    list_prefix c.args.list.now _ c.args.rest.now c.in_ok-prefix.prefix (answer_some _ _ c.in_ok-prefix.ensures) refl c.in_ok-push.ensures.ok
