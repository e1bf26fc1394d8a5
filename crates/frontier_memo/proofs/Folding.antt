-- Events that fit, one after another.
use Rattle.std.proofs.Common.{◌≡◌, ℕ, ◌+◌, ◌<◌, List, [], ◌∷◌, ◌++◌, take, length, refl, sym, ◌∙◌, ap, subst, Some, arith, ⊎_elim, inl, inr, suc, zero}
use Rattle.std.specs.Prelude.{slice_get, ◌⊎◌}
use Rattle.std.proofs.lemmas.Bool.{cases_lt}
use Rattle.std.proofs.lemmas.List.{take-append-le, length-append}
use Rattle.std.proofs.lemmas.Option.{slice_get_within}
use Rattle.std.proofs.Math.Seq.{take-append_seam}
use Rattle.crawl_kinds.specs.declared.event.Event.{Event}
use Rattle.crawl_history.specs.History.{history_of}
use Rattle.frontier_memo.specs.Fits.{AllFit, Fits}

get_before : {X : Type 0} (xs : List X) (x : X) (j : ℕ) → j < length xs → slice_get (xs ++ x ∷ []) j ≡ slice_get xs j
get_before [] x j lt = absurd (omega arith)
get_before (y ∷ xs) x zero lt = refl
get_before (y ∷ xs) x (suc j) lt = get_before xs x j (omega arith)

get_last : {X : Type 0} (xs : List X) (x : X) → slice_get (xs ++ x ∷ []) (length xs) ≡ Some x
get_last [] x = refl
get_last (y ∷ xs) x = get_last xs x

cases_at : (j n : ℕ) → j < n + 1 → (j < n) ⊎ (j ≡ n)
cases_at j n lt = ⊎_elim (λ below. inl below) (λ above. inr (omega arith)) (cases_lt j n)

-- with one event more that fits
pub all_fit-snoc : (es : List Event) (x : Event) → AllFit es → Fits (history_of es) x → AllFit (es ++ x ∷ [])
all_fit-snoc es x all fits j e at =
    ⊎_elim
    (λ lt. subst (λ ys. Fits (history_of ys) e) (sym (take-append-le j es (x ∷ []) (omega arith))) (all j e (sym (get_before es x j lt) ∙ at)))
    (λ last.
    let same : Some x ≡ Some e = sym (get_last es x) ∙ ap (slice_get (es ++ x ∷ [])) (sym last) ∙ at in
    let is : x ≡ e = cc in
    subst (λ ys. Fits (history_of ys) e) (sym (ap (λ n. take n (es ++ x ∷ [])) last ∙ take-append_seam es (x ∷ []))) (subst (Fits (history_of es)) is fits))
    (cases_at j (length es) (omega (arith, slice_get_within (es ++ x ∷ []) j e at, length-append es (x ∷ []))))

pub all_fit-none : AllFit []
all_fit-none j e at = absurd (omega (arith, slice_get_within [] j e at))
