use Rattle.std.proofs.Common.{◌≡◌, ◌∙◌}
use Rattle.std.proofs.lemmas.Result.{err_from_is_err_and}
use Rattle.seed_list.specs.declared.fault.LineFault.TheVariants.{Refused}
use Rattle.seed_list.proofs.LineKinds.{no_prefix_no_seed, prefix_of_seed_line, refused_seed}
use Rattle.seed_list.proofs.Steps.{answer_refusal, answer_some, list_seed}
use Rattle.seed_list.proofs.list.add_seed.Goals as goal

pub returns-in_err-seed-clause-refused : goal.returns-in_err-seed-clause-refused
returns-in_err-seed-clause-refused c = λ h.
    let p = err_from_is_err_and c.from_residual.result c.from_residual.ensures.1 in
    let fault : c.in_err-seed.field-0.0 ≡ Refused = cc (p.1, p.2, h) in
    refused_seed c.args.line.now c.requires (answer_refusal _ _ fault c.in_err-seed.ensures.answer)

pub returns-in_err-prefix-clause-refused : goal.returns-in_err-prefix-clause-refused
returns-in_err-prefix-clause-refused c = λ h.
    let p = err_from_is_err_and c.from_residual-in_err-prefix.result c.from_residual-in_err-prefix.ensures.1 in
    let fault : c.in_err-prefix.field-0.0 ≡ Refused = cc (p.1, p.2, h) in
    let none = answer_refusal _ _ fault c.in_err-prefix.ensures in
    refused_seed c.args.line.now c.requires (no_prefix_no_seed c.args.line.now none)

pub returns-clause-ok : goal.returns-clause-ok
returns-clause-ok c =
    let line = c.args.line.now in
    list_seed c.args.list.now _ line c.in_ok-seed.seed c.in_ok-prefix.prefix c.requires
    (answer_some _ _ c.in_ok-seed.ensures.answer)
    (prefix_of_seed_line line c.requires ∙ answer_some _ _ c.in_ok-prefix.ensures)
    c.in_ok-seed.ensures.address c.in_ok-push.ensures.ok c.in_ok-push-2.ensures.ok
