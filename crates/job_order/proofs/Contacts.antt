-- The contact: what reading its text answers.
use Rattle.std.proofs.Common.{◌≡◌, true, false, ℕ, List, [], None, Result, Ok, Err, sym, ap, ◌∙◌, ⊎_elim}
use Rattle.std.specs.Prelude.{is_ok, unwrap_or}
use Rattle.std.specs.Result.{result_ok}
use Rattle.url.specs.Parser.{parse_url}
use Rattle.uri_form.specs.declared.fault.UriFault.{UriFault}
use Rattle.uri_form.specs.declared.fault.UriFault.TheVariants.{NoMemory}
use Rattle.uri_form.specs.Fault.{Answers, address_in}
use Rattle.job_spec.specs.Gives.{address_of}
use Rattle.job_spec.specs.Texts.{is_address}

-- an answer that is no want of memory is the right one
answered : {T : Type 0} (r answer : Result T UriFault) → Answers r answer → (r ≡ Err NoMemory → ⊥) → answer ≡ r
answered r answer h other = ⊎_elim (λ same. sym same) (λ none. absurd (other none)) h

pub contact_read : (text uri : List ℕ) (r : Result (List ℕ) UriFault) → Answers r (address_in text (parse_url None text)) → r ≡ Ok uri → (is_address text ≡ true) × (uri ≡ address_of text)
unfolding is_address address_of
contact_read text uri r h is =
    let same = answered r (address_in text (parse_url None text)) h (λ none. let two = sym is ∙ none in cc) ∙ is in
    (ap is_ok same, sym (ap (λ o. unwrap_or (result_ok o) []) same))

pub contact_refused : (text : List ℕ) (r : Result (List ℕ) UriFault) (fault : UriFault) → Answers r (address_in text (parse_url None text)) → r ≡ Err fault → (fault ≡ NoMemory → ⊥) → is_address text ≡ false
unfolding is_address
contact_refused text r fault h is other =
    let same = answered r (address_in text (parse_url None text)) h (λ none. let two = sym is ∙ none in other cc) ∙ is in
    ap is_ok same
