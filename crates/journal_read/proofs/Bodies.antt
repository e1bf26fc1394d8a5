-- Where a field of what was recorded is not read, nothing has these fields.
use Rattle.std.proofs.Common.{◌≡◌, ℕ, List, ◌∷◌, ◌++◌, Option, Some, None, Err, refl, sym, ap, subst, ◌∙◌, arith}
use Rattle.std.specs.Prelude.{codes, IfSome, IsTrue}
use Rattle.crawl_kinds.specs.Text.{is_text, is_visible}
use Rattle.crawl_kinds.specs.declared.event.Body.{Body}
use Rattle.journal_spec.specs.Fields.{body_fields}
use Rattle.journal_valid.specs.Ends.{IsBody, is_digest}
use Rattle.journal_read.specs.declared.fault.Misread.{Misread}
use Rattle.journal_read.specs.declared.fault.Misread.TheVariants.{Bad, NoMemory}
use Rattle.journal_read.specs.Reading.{Reads}
use Rattle.journal_read.specs.Ends.{IsBodyOf}
use Rattle.journal_read.proofs.Same.{at, no_dash_number}

pub digest_out : (size media digest spot : List ℕ) (fault : Misread) → Reads (λ (d : List ℕ). (d ≡ digest) × IsTrue (is_text is_visible 37 digest) × IsTrue (is_digest digest)) (Err fault) → Reads (IsBodyOf size media digest spot) (Err fault)
digest_out size media digest spot Bad h =
    λ x is.
    let e : x.digest ≡ digest = ap (at 2) is.fields in
    h digest (refl, subst (λ (t : List ℕ). IsTrue (is_text is_visible 37 t)) e is.valid.digest, subst (λ (t : List ℕ). IsTrue (is_digest t)) e is.valid.digested)
digest_out size media digest spot NoMemory h = tt

pub no_absent_media : (all l k : List (List ℕ)) (s m : List ℕ) (rest : List (List ℕ)) (x : Option Body) → all ≡ s ∷ l → l ≡ m ∷ k → s ≡ codes "-" → (m ≡ codes "-" → ⊥) → IfSome x IsBody → all ≡ body_fields x ++ rest → ⊥
no_absent_media all l k s m rest None a b absent other is e =
    other (ap (at 1) (sym (a ∙ ap (λ (t : List (List ℕ)). s ∷ t) b) ∙ e))
no_absent_media all l k s m rest (Some body) a b absent other is e =
    no_dash_number body.size (omega (arith, is.size)) (sym absent ∙ ap (at 0) (sym (a ∙ ap (λ (t : List (List ℕ)). s ∷ t) b) ∙ e))
