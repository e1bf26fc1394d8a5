-- Answers of one reading, from those of another.
use Rattle.std.proofs.Common.{◌≡◌, ℕ, ◌+◌, None, Result, Ok, Err, refl, inl, inr, ap}
use Rattle.std.specs.Prelude.{ok_or}
use Rattle.std.specs.Result.{result_ok}
use Rattle.uri_form.specs.declared.fault.UriFault.{UriFault}
use Rattle.uri_form.specs.declared.fault.UriFault.TheVariants as uri
use Rattle.uri_form.specs.Fault as form
use Rattle.seed_list.specs.declared.fault.LineFault.{LineFault}
use Rattle.seed_list.specs.declared.fault.LineFault.TheVariants.{Refused, NoMemory}
use Rattle.seed_list.specs.declared.fault.SeedFault.TheVariants as answer
use Rattle.seed_list.specs.Reading.{Answers, fault_behind, fault_of_uri}

pub answer_ok : {T : Type 0} (x : T) (answer : Result T UriFault) → form.Answers (Ok x) answer → Answers (Ok x) (result_ok answer)
answer_ok {T} x answer (inl e) = inl (ap (λ (r : Result T UriFault). ok_or (result_ok r) Refused) e)
answer_ok {T} x answer (inr e) = cc e

-- a refusal is the one of lines, or it is want of memory
of_refusal : {T : Type 0} (fault : UriFault) → Answers {T = T} (Err (fault_of_uri fault)) None
of_refusal (uri.TooLong len) = inl refl
of_refusal uri.NotAUri = inl refl
of_refusal uri.OtherScheme = inl refl
of_refusal uri.NoMemory = inr refl

pub answer_err : {T : Type 0} (fault : UriFault) (answer : Result T UriFault) → form.Answers (Err fault) answer
    → Answers {T = T} (Err (fault_of_uri fault)) (result_ok answer)
answer_err {T} fault answer (inl e) =
    let none : None ≡ result_ok answer = ap (λ (r : Result T UriFault). result_ok r) e in
    rw (← none) (of_refusal fault)
answer_err {T} fault answer (inr e) =
    let memory : fault ≡ uri.NoMemory = cc e in
    inr (ap (λ (f : UriFault). Err (fault_of_uri f)) memory)

-- a bad seed is a refused line, and its number is one more than the lines before it
pub behind_bad : (count n : ℕ) (fault : LineFault) → fault_behind count fault ≡ answer.BadSeed n → (fault ≡ Refused) × (count + 1 ≡ n)
behind_bad count n Refused e = (refl, cc e)
behind_bad count n NoMemory e = cc e
