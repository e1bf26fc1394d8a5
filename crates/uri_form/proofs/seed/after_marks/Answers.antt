use Rattle.std.proofs.Common.{Some, sym, ap, ◌∙◌}
use Rattle.uri_form.proofs.Marks.{after_marks-found, after_marks-none}
use Rattle.uri_form.proofs.seed.after_marks.Goals as goal

pub returns-in-Some : goal.returns-in-Some
returns-in-Some c =
    let cut = c.in-Some.ensures.cases in
    ap Some cut.4 ∙ sym (after_marks-found c.args.text.now cut.0 _ cut.2.0 cut.2.1.split)

pub returns-in-None : goal.returns-in-None
returns-in-None c = sym (after_marks-none c.args.text.now c.in-None.ensures.cases)
