use Rattle.std.proofs.Common.{◌≡◌, ◌-◌, Some, None, take, ap, sym, ◌∙◌, arith}
use Rattle.std.proofs.lemmas.Str.Pattern.{rfind_char}
use Rattle.uri_form.proofs.Marks.{before_last-found, before_last-none}
use Rattle.uri_form.proofs.seed.folder.Goals as goal

pub returns-in-Some : goal.returns-in-Some
returns-in-Some c =
    let path = c.args.path.now in
    let found = rfind_char 47 path (Some c.in-Some.at) c.in-Some.ensures.cases (omega arith) in
    let place : c.in-Some.at - 0 ≡ c.in-Some.at = omega arith in
    c.range.ensures.value ∙ ap (λ n. take n path) place ∙ sym (before_last-found path c.in-Some.at found.0 found.1 found.2)

pub returns-in-None : goal.returns-in-None
returns-in-None c =
    let path = c.args.path.now in
    sym (before_last-none path (rfind_char 47 path None c.in-None.ensures.cases (omega arith)))
