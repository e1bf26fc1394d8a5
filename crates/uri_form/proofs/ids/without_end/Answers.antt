use Rattle.std.proofs.Common.{◌≡◌, ℕ, List, [], ◌∷◌, ◌++◌, false, None, eqb, sym, ap, ◌∙◌, ⊎_elim, arith, eqb-true}
use Rattle.std.proofs.lemmas.Bool.{cases_Bool}
use Rattle.std.proofs.lemmas.Str.Pattern.{strip_suffix_char}
use Rattle.uri_spec.specs.SessionId.{ampersand}
use Rattle.uri_form.proofs.IdLaws.{trim_end-none}
use Rattle.uri_form.proofs.ids.without_end.Goals as goal

pub returns : goal.returns
returns c =
    let rest = c.ends.rest.now in
    let other = strip_suffix_char 38 rest None c.in_default.ensures.cases (omega arith) in
    let last : (b : ℕ) (front : List ℕ) → rest ≡ front ++ b ∷ [] → eqb b ampersand ≡ false = λ b front ends.
    ⊎_elim (λ yes. absurd (other front (ends ∙ ap (λ x. front ++ x ∷ []) (eqb-true b 38 yes)))) (λ no. no) (cases_Bool (eqb b ampersand)) in
    sym (trim_end-none (λ b. eqb b ampersand) rest last) ∙ c.ends.invariant.1
