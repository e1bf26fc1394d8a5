-- Notes as they are taken one by one.
use Rattle.std.proofs.Common.{◌≡◌, ⊎_elim, ℕ, ℤ, pos, ◌<◌, ◌≤◌, ◌^◌, Bool, true, false, List, [], ◌∷◌, ◌++◌, get_or, Option, Some, None, refl, sym, ap, subst, ◌∙◌, arith, append_assoc, append-nil}
use Rattle.std.specs.Prelude.{decimal, codes, IfSome, nat_lt, unwrap_or, if◌then◌else◌}
use Rattle.std.specs.Fmt.{signed_decimal, digits}
use Rattle.std.specs.Ordering.{int_eq}
use Rattle.std.proofs.lemmas.Bool.{false≢true, ltb-false, le-ltb, or_cases, or_right, cond-false}
use Rattle.std.proofs.lemmas.Fmt.{decimal_injective}
use Rattle.std.proofs.lemmas.List.Splits.{join_with_byte-slice_split}
use Rattle.crawl_kinds.specs.declared.event.Cut.{Cut}
use Rattle.crawl_kinds.specs.declared.event.Cut.TheVariants.{Length, Disconnect}
use Rattle.crawl_kinds.specs.declared.event.Notes.{Notes}
use Rattle.journal_spec.specs.Fields.{cut_notes, tries_notes, cause_notes, joined_notes, notes_field}
use Rattle.journal_valid.specs.Ends.{IsNotes, is_among, link_faults}
use Rattle.journal_read.specs.Reading.{cells, MayTake}
use Rattle.journal_read.specs.Ends.{cut_note, tries_note, cause_note, IsNoted, IsCause}
use Rattle.journal_read.proofs.Cells.{cells_some}
use Rattle.journal_read.proofs.Visible.{among}
use Rattle.std.specs.List.{join_with_byte}
use Rattle.journal_read.proofs.Remarks.{listed, dashed, joined_listed, free_listed}

pub low_tries : (text : List ℕ) (n : ℕ) → text ≡ decimal n → n < 2 → n < 2 ^ 32 → (tries : ℕ) → text ≡ decimal tries → IsNoted tries → ⊥
low_tries text n is low small tries e noted =
    let same = decimal_injective n tries (omega arith) (omega (arith, noted.1)) (sym is ∙ e) in
    omega (arith, noted.0)

-- the part of a value that is there
abbrev pub opt : {X : Type 0} → (X → List ℕ) → Option X → List (List ℕ)
opt part None = []
opt part (Some x) = part x ∷ []

-- what was taken is what stood there, and what is left is what stood behind it
pub agrees : {X : Type 0} (part : X → List ℕ) (is : X → Type 0) (old new : List (List ℕ)) (r : Option X) → MayTake part is old new r → (o : Option X) (tail : List (List ℕ)) → IfSome o is → old ≡ opt part o ++ tail → ((x : X) (rest : List (List ℕ)) → is x → tail ≡ part x ∷ rest → ⊥) → new ≡ tail
agrees part is old new None h None tail io e other = h.0 ∙ e
agrees part is old new None h (Some x) tail io e other = absurd (h.1 x tail io e)
agrees part is old new (Some y) h None tail io e other = absurd (other y new h.0 (sym e ∙ h.1))
agrees part is old new (Some y) h (Some x) tail io e other =
    let both : part y ∷ new ≡ part x ∷ tail = sym h.1 ∙ e in cc

-- what was taken stands in front of what is left
pub taken : {X : Type 0} (part : X → List ℕ) (is : X → Type 0) (old new : List (List ℕ)) (r : Option X) → MayTake part is old new r → (old ≡ opt part r ++ new) × IfSome r is
taken part is old new None h = (sym h.0, tt)
taken part is old new (Some x) h = (h.1, h.0)

-- the try number that is noted, the cause that is
abbrev pub tries_of : ℕ → Option ℕ
tries_of tries = if nat_lt tries 2 then None else Some tries

abbrev pub cause_of : ℤ → Option ℤ
cause_of cause = if int_eq cause (pos 0) then None else Some cause

tries_by : (b : Bool) (tries : ℕ) → (if b then [] else (codes "tries:" ++ decimal tries) ∷ []) ≡ opt tries_note (if b then None else Some tries)
tries_by true tries = refl
tries_by false tries = refl

cause_by : (b : Bool) (cause : ℤ) → (if b then [] else (codes "cause:" ++ signed_decimal cause) ∷ []) ≡ opt cause_note (if b then None else Some cause)
cause_by true cause = refl
cause_by false cause = refl

cuts : (cut : Option Cut) → cut_notes cut ≡ opt cut_note cut
cuts None = refl
cuts (Some Length) = refl
cuts (Some Disconnect) = refl

-- the notes, each of which may be there
pub listed_is : (notes : Notes) → listed notes ≡ opt cut_note notes.cut ++ (opt tries_note (tries_of notes.tries) ++ opt cause_note (cause_of notes.cause))
listed_is notes =
    append_assoc (cut_notes notes.cut) (tries_notes notes.tries) (cause_notes notes.cause)
    ∙ (ap (λ t. t ++ (tries_notes notes.tries ++ cause_notes notes.cause)) (cuts notes.cut)
    ∙ (ap (λ t. opt cut_note notes.cut ++ (t ++ cause_notes notes.cause)) (tries_by (nat_lt notes.tries 2) notes.tries)
    ∙ ap (λ t. opt cut_note notes.cut ++ (opt tries_note (tries_of notes.tries) ++ t)) (cause_by (int_eq notes.cause (pos 0)) notes.cause)))

abbrev fourth : List (List ℕ) → ℕ
fourth notes = get_or (get_or notes 0 []) 3 0

cut_fourth : (cut : Cut) (rest : List (List ℕ)) → fourth (cut_note cut ∷ rest) ≡ 110
cut_fourth Length rest = refl
cut_fourth Disconnect rest = refl

-- no cut is noted behind the notes on a cut, no try number behind that
no_cut : (t : Option ℕ) (k : Option ℤ) (cut : Cut) (rest : List (List ℕ)) → opt tries_note t ++ opt cause_note k ≡ cut_note cut ∷ rest → ⊥
no_cut None None cut rest e = cc
no_cut None (Some k) cut rest e = omega (arith, ap fourth e, cut_fourth cut rest)
no_cut (Some t) k cut rest e = omega (arith, ap fourth e, cut_fourth cut rest)

no_tries : (k : Option ℤ) (tries : ℕ) (rest : List (List ℕ)) → opt cause_note k ≡ tries_note tries ∷ rest → ⊥
no_tries None tries rest e = cc
no_tries (Some k) tries rest e = omega (arith, ap fourth e)

noted_by : (b : Bool) (tries : ℕ) → b ≡ nat_lt tries 2 → tries < 2 ^ 32 → IfSome (if b then None else Some tries) IsNoted
noted_by true tries e small = tt
noted_by false tries e small = (ltb-false tries 2 (sym e), small)

cause_noted : (cause : ℤ) → is_among (pos 0 ∷ link_faults) cause ≡ true → (b : Bool) → b ≡ int_eq cause (pos 0) → IfSome (if b then None else Some cause) IsCause
cause_noted cause is true e = tt
cause_noted cause is false e =
    ⊎_elim (λ none. absurd (false≢true (e ∙ none))) (λ some. some) (or_cases (int_eq cause (pos 0)) (is_among link_faults cause) is)

unit_if : {X : Type 0} (o : Option X) → IfSome o (λ _. Unit {0})
unit_if None = tt
unit_if (Some x) = tt

undashed : (text : List ℕ) (notes : List (List ℕ)) → text ≡ joined_notes notes → cells 44 text ≡ dashed notes → (text ≡ codes "-" → ⊥) → cells 44 text ≡ notes
undashed text [] e whole dash = absurd (dash e)
undashed text (note ∷ notes) e whole dash = whole

-- what is taken of notes
pub notes_end : (text : List ℕ) (a b d : List (List ℕ)) (cut : Option Cut) (tries : Option ℕ) (cause : Option ℤ) → (text ≡ codes "-" → ⊥) → MayTake cut_note (λ _. Unit {0}) (cells 44 text) a cut → MayTake tries_note IsNoted a b tries → MayTake cause_note IsCause b d cause → (d ≡ [] → ⊥) → (notes : Notes) → text ≡ notes_field notes → IsNotes notes → ⊥
notes_end text a b d cut tries cause dash hc ht hk some notes e is =
    let whole : cells 44 text ≡ dashed (listed notes) = ap (cells 44) e ∙ joined_listed (listed notes) (free_listed notes is) in
    let all : cells 44 text ≡ listed notes = undashed text (listed notes) e whole dash in
    let grouped = all ∙ listed_is notes in
    let one = agrees cut_note (λ (_ : Cut). Unit {0}) (cells 44 text) a cut hc notes.cut (opt tries_note (tries_of notes.tries) ++ opt cause_note (cause_of notes.cause)) (unit_if notes.cut) grouped (λ x rest is' f. no_cut (tries_of notes.tries) (cause_of notes.cause) x rest f) in
    let two = agrees tries_note IsNoted a b tries ht (tries_of notes.tries) (opt cause_note (cause_of notes.cause)) (noted_by (nat_lt notes.tries 2) notes.tries refl is.tries) one (λ x rest is' f. no_tries (cause_of notes.cause) x rest f) in
    let three = agrees cause_note IsCause b d cause hk (cause_of notes.cause) [] (cause_noted notes.cause is.cause (int_eq notes.cause (pos 0)) refl) (two ∙ sym (append-nil (opt cause_note (cause_of notes.cause)))) (λ x rest is' f. cc) in
    some three

pub joined_from_cells : (text : List ℕ) (notes : List (List ℕ)) → cells 44 text ≡ notes → text ≡ joined_notes notes
joined_from_cells text [] e = absurd (cells_some 44 text e)
joined_from_cells text (note ∷ notes) e = sym (join_with_byte-slice_split 44 text) ∙ ap (join_with_byte 44) e

back_tries : (t : Option ℕ) → IfSome t IsNoted → tries_of (unwrap_or t 1) ≡ t
back_tries None is = refl
back_tries (Some t) is = cond-false (nat_lt t 2) None (Some t) (le-ltb t 2 is.0)

among_links : (k : ℤ) → is_among link_faults k ≡ true → int_eq k (pos 0) ≡ false
among_links k is = among (λ c. int_eq c (pos 0) ≡ false) link_faults (refl, (refl, (refl, tt))) k is

back_cause : (k : Option ℤ) → IfSome k IsCause → cause_of (unwrap_or k (pos 0)) ≡ k
back_cause None is = refl
back_cause (Some k) is = cond-false (int_eq k (pos 0)) None (Some k) (among_links k is)

good_tries : (t : Option ℕ) → IfSome t IsNoted → (1 ≤ unwrap_or t 1) × (unwrap_or t 1 < 2 ^ 32)
good_tries None is = (omega arith, omega arith)
good_tries (Some t) is = (omega (arith, is.0), is.1)

good_cause : (k : Option ℤ) → IfSome k IsCause → is_among (pos 0 ∷ link_faults) (unwrap_or k (pos 0)) ≡ true
good_cause None is = refl
good_cause (Some k) is = or_right (int_eq k (pos 0)) (is_among link_faults k) is

-- what was taken, where nothing is left, is spelled so
pub notes_whole : (text : List ℕ) (a b d : List (List ℕ)) (cut : Option Cut) (tries : Option ℕ) (cause : Option ℤ) → MayTake cut_note (λ _. Unit {0}) (cells 44 text) a cut → MayTake tries_note IsNoted a b tries → MayTake cause_note IsCause b d cause → d ≡ [] → let notes : Notes = record { cut = cut; tries = unwrap_or tries 1; cause = unwrap_or cause (pos 0) } in (text ≡ notes_field notes) × IsNotes notes
notes_whole text a b d cut tries cause hc ht hk none =
    let notes : Notes = record { cut = cut; tries = unwrap_or tries 1; cause = unwrap_or cause (pos 0) } in
    let one = taken cut_note (λ (_ : Cut). Unit {0}) (cells 44 text) a cut hc in
    let two = taken tries_note IsNoted a b tries ht in
    let three = taken cause_note IsCause b d cause hk in
    let t = good_tries tries two.1 in
    let last : b ≡ opt cause_note cause = three.0 ∙ (ap (λ r. opt cause_note cause ++ r) none ∙ append-nil (opt cause_note cause)) in
    let middle : a ≡ opt tries_note tries ++ opt cause_note cause = two.0 ∙ ap (λ r. opt tries_note tries ++ r) last in
    let all : cells 44 text ≡ opt cut_note cut ++ (opt tries_note tries ++ opt cause_note cause) = one.0 ∙ ap (λ r. opt cut_note cut ++ r) middle in
    let same : listed notes ≡ opt cut_note cut ++ (opt tries_note tries ++ opt cause_note cause) =
    listed_is notes
    ∙ (ap (λ r. opt cut_note cut ++ (opt tries_note r ++ opt cause_note (cause_of (unwrap_or cause (pos 0))))) (back_tries tries two.1)
    ∙ ap (λ r. opt cut_note cut ++ (opt tries_note tries ++ opt cause_note r)) (back_cause cause three.1)) in (
      joined_from_cells text (listed notes) (all ∙ sym same),
      record { first = t.0; tries = t.1; cause = good_cause cause three.1 },
    )

pub cause_at : (note : List ℕ) (k : ℤ) → note ≡ codes "cause:" ++ signed_decimal k → IsCause k → (note ≡ cause_note k) × IsCause k
cause_at note k e is = (e, is)

-- a note on a cause is one of three texts
pub cause_texts : (note : List ℕ) → (note ≡ codes "cause:-2" → ⊥) → (note ≡ codes "cause:-3" → ⊥) → (note ≡ codes "cause:-4" → ⊥) → (cause : ℤ) → note ≡ cause_note cause → IsCause cause → ⊥
unfolding digits
cause_texts note a b d cause e is =
    among (λ c. note ≡ cause_note c → ⊥) link_faults (a, (b, (d, tt))) cause is e

-- the same, of numbers that are known to be these
pub notes_read : (text : List ℕ) (a b d : List (List ℕ)) (cut : Option Cut) (tries : Option ℕ) (cause : Option ℤ) → MayTake cut_note (λ _. Unit {0}) (cells 44 text) a cut → MayTake tries_note IsNoted a b tries → MayTake cause_note IsCause b d cause → d ≡ [] → (t : ℕ) (k : ℤ) → t ≡ unwrap_or tries 1 → k ≡ unwrap_or cause (pos 0) → let notes : Notes = record { cut = cut; tries = t; cause = k } in (text ≡ notes_field notes) × IsNotes notes
notes_read text a b d cut tries cause hc ht hk none t k et ek =
    let P : ℕ → ℤ → Type 0 = λ u l. let notes : Notes = record { cut = cut; tries = u; cause = l } in (text ≡ notes_field notes) × IsNotes notes in
    subst (λ (u : ℕ). P u k) (sym et) (subst (λ (l : ℤ). P (unwrap_or tries 1) l) (sym ek) (notes_whole text a b d cut tries cause hc ht hk none))
