-- An end is valid exactly where its parts suit its code.
use Rattle.std.proofs.Common.{◌≡◌, ℕ, ℤ, pos, negsuc, Bool, true, false, not, Option, Some, None, List, [], ◌∷◌, ◌++◌, take, drop, w32, to_z, of_z, refl, sym, ap, ◌∙◌, arith}
use mir.Val.{SFits}
use Rattle.std.specs.Prelude.{IfSome, is_some}
use Rattle.std.specs.Fmt.{signed_decimal}
use Rattle.std.proofs.lemmas.Int.{to_z-of_z}
use Rattle.std.proofs.lemmas.Fmt.{signed_decimal_injective}
use Rattle.std.specs.Ordering.{int_eq}
use Rattle.std.proofs.Math.Bool.{beq}
use Rattle.std.proofs.lemmas.Bool.{false≢true, leb-true}
use Rattle.crawl_kinds.specs.declared.event.Outcome.{Outcome}
use Rattle.crawl_kinds.specs.declared.event.Fetch.{Fetch}
use Rattle.crawl_kinds.specs.declared.event.Body.{Body}
use Rattle.crawl_kinds.specs.declared.event.Notes.{Notes}
use Rattle.crawl_kinds.specs.declared.event.End.{End}
use Rattle.journal_spec.specs.Fields.{body_fields, end_fields, fetch_field, notes_field}
use Rattle.journal_valid.specs.Ends.{IsBody, IsEnd, IsFetch, IsNotes, is_fetched, is_last_failure, is_status, outcome_of}
use Rattle.journal_read.specs.Ends.{IsEndOf}
use Rattle.journal_read.specs.Lines.{is_code}
use Rattle.journal_read.proofs.Visible.{code_in}
use Rattle.journal_read.proofs.Same.{at, body_same, fetch_same}
use Rattle.journal_read.proofs.Remarks.{code_small, notes_same}

same : (a b : Bool) → not (beq a b) ≡ false → a ≡ b
same true true e = refl
same true false e = absurd (false≢true (sym e))
same false true e = absurd (false≢true (sym e))
same false false e = refl

other : (a b : Bool) → beq a b ≡ false → a ≡ not b
other true true e = absurd (false≢true (sym e))
other true false e = refl
other false true e = refl
other false false e = absurd (false≢true (sym e))

both : (a b : Bool) → beq a b ≡ true → a ≡ not b → ⊥
both true true e f = false≢true (sym f)
both true false e f = false≢true e
both false true e f = false≢true e
both false false e f = false≢true f

pub end_made : (outcome : Outcome) (code own : ℤ) (fetch : Option Fetch) (body : Option Body) (notes : Notes) (f fc b bc u l : Bool) → own ≡ code → outcome_of own ≡ Some outcome → IfSome fetch IsFetch → IfSome body IsBody → IsNotes notes → f ≡ is_some fetch → fc ≡ is_fetched own → not (beq f fc) ≡ false → b ≡ is_some body → bc ≡ is_status own → not (beq b bc) ≡ false → u ≡ int_eq notes.cause (pos 0) → l ≡ is_last_failure own → beq u l ≡ false → IsEndOf code fetch body notes (record { outcome = outcome; code = own; fetch = fetch; body = body; notes = notes })
end_made outcome code own fetch body notes f fc b bc u l e of_code hf hb hn ef efc tf eb ebc tb eu el tu =
    record {
      valid = record {
        outcome = of_code;
        fetched = sym ef ∙ (same f fc tf ∙ efc);
        fetch = hf;
        recorded = sym eb ∙ (same b bc tb ∙ ebc);
        body = hb;
        notes = hn;
        caused = sym eu ∙ (other u l tu ∙ ap not el);
      };
      of_code = e;
      of_fetch = refl;
      of_body = refl;
      of_notes = refl;
    }

pub no_end : (code own : ℤ) (fetch : Option Fetch) (body : Option Body) (notes : Notes) (u l : Bool) → own ≡ code → u ≡ int_eq notes.cause (pos 0) → l ≡ is_last_failure own → beq u l ≡ true → (x : End) → IsEndOf code fetch body notes x → ⊥
no_end code own fetch body notes u l e eu el t x is =
    let cause : int_eq notes.cause (pos 0) ≡ int_eq x.notes.cause (pos 0) = ap (λ (n : Notes). int_eq n.cause (pos 0)) (sym is.of_notes) in
    let last : is_last_failure x.code ≡ is_last_failure own = ap is_last_failure (is.of_code ∙ sym e) in
    both u l t (eu ∙ (cause ∙ (is.valid.caused ∙ ap not (last ∙ sym el))))

code_fits : (code : ℤ) → is_code code ≡ true → SFits w32 code
code_fits (pos n) is = let h = leb-true n 999 is in record { sfits = omega arith }
code_fits (negsuc n) is = let h = leb-true n 9997 is in record { sfits = omega arith }

-- the fields of what was recorded are four
body_first : (b : Option Body) (n : List ℕ) (rest : List (List ℕ)) → take 5 (body_fields b ++ n ∷ rest) ≡ body_fields b ++ n ∷ []
body_first None n rest = refl
body_first (Some b) n rest = refl

body_next : (b : Option Body) (n : List ℕ) (rest : List (List ℕ)) → (body_fields b ++ n ∷ []) ++ rest ≡ body_fields b ++ n ∷ rest
body_next None n rest = refl
body_next (Some b) n rest = refl

-- an end with these fields has these parts
pub end_found : (old l1 l2 l3 l4 : List (List ℕ)) (ct ft nt : List ℕ) (code : ℤ) (fetch : Option Fetch) (body : Option Body) (notes : Notes) (outcome : Outcome) → old ≡ ct ∷ l1 → l1 ≡ ft ∷ l2 → l2 ≡ body_fields body ++ l3 → l3 ≡ nt ∷ l4 → ct ≡ signed_decimal code → is_code code ≡ true → ft ≡ fetch_field fetch → IfSome fetch IsFetch → IfSome body IsBody → nt ≡ notes_field notes → IsNotes notes → (x : End) (rest : List (List ℕ)) → IsEnd x × (x.outcome ≡ outcome) → old ≡ end_fields x ++ rest → IsEndOf (to_z w32 (of_z w32 code)) fetch body notes x × (x.outcome ≡ outcome)
end_found old l1 l2 l3 l4 ct ft nt code fetch body notes outcome e1 e2 e3 e4 ec hc ef hf hb en hn x rest is e =
    let first : ct ∷ l1 ≡ end_fields x ++ rest = sym e1 ∙ e in
    let more : ft ∷ l2 ≡ fetch_field x.fetch ∷ ((body_fields x.body ++ notes_field x.notes ∷ []) ++ rest) = sym e2 ∙ ap (drop 1) first in
    let last : body_fields body ++ nt ∷ l4 ≡ body_fields x.body ++ notes_field x.notes ∷ rest = ap (λ (t : List (List ℕ)). body_fields body ++ t) (sym e4) ∙ (sym e3 ∙ (ap (drop 1) more ∙ body_next x.body (notes_field x.notes) rest)) in
    let five : body_fields body ++ nt ∷ [] ≡ body_fields x.body ++ notes_field x.notes ∷ [] = sym (body_first body nt l4) ∙ (ap (take 5) last ∙ body_first x.body (notes_field x.notes) rest) in
    let split = body_same body x.body nt (notes_field x.notes) hb is.0.body five in
    let cx = code_in x.code x.outcome is.0.outcome in
    let same_code : code ≡ x.code = signed_decimal_injective code x.code (code_small code hc) (code_small x.code cx) (sym ec ∙ ap (at 0) first) in
    let same_fetch = fetch_same fetch x.fetch hf is.0.fetch (sym ef ∙ ap (at 0) more) in
    let same_notes = notes_same notes x.notes hn is.0.notes (sym en ∙ split.1) in (
      record {
        valid = is.0;
        of_code = sym same_code ∙ sym (to_z-of_z w32 code (code_fits code hc));
        of_fetch = sym same_fetch;
        of_body = sym split.0;
        of_notes = sym same_notes;
      },
      is.1,
    )
