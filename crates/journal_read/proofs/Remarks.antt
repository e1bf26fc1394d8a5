-- Notes determine what they are on.
use Rattle.std.proofs.Common.{◌≡◌, ◌⊎◌, ⊎_elim, ℕ, ℤ, pos, negsuc, suc, ◌<◌, ◌≤◌, ◌^◌, Bool, true, false, not, eqb, List, [], ◌∷◌, ◌++◌, length, get_or, drop, append_assoc, inl, inr, Option, Some, None, refl, sym, ap, ◌∙◌, arith}
use Rattle.std.specs.Prelude.{decimal, codes, nat_lt, if◌then◌else◌}
use Rattle.std.specs.Fmt.{signed_decimal}
use Rattle.std.specs.List.{AllByRecursion, list_all}
use Rattle.std.specs.Ordering.{int_eq}
use Rattle.std.proofs.lemmas.Bool.{false≢true, and_parts, not-true, cases_Bool, ltb-true, leb-true}
use Rattle.std.proofs.lemmas.Bool.Decides.{Decides-int_eq}
use Rattle.std.proofs.lemmas.Fmt.{decimal_injective, signed_decimal_injective}
use Rattle.std.proofs.lemmas.List.Elements.{All-nil, All-cons}
use lib.Signed.{mag}
use Rattle.crawl_kinds.specs.declared.event.Cut.{Cut}
use Rattle.crawl_kinds.specs.declared.event.Cut.TheVariants.{Length, Disconnect}
use Rattle.crawl_kinds.specs.declared.event.Notes.{Notes}
use Rattle.journal_spec.specs.Fields.{cut_notes, tries_notes, cause_notes, joined_notes, notes_field}
use Rattle.journal_valid.specs.Ends.{IsNotes}
use Rattle.journal_read.specs.Reading.{cells}
use Rattle.journal_read.specs.Lines.{is_code}
use Rattle.journal_read.proofs.Visible.{cause_code, all_append}
use Rattle.journal_read.proofs.Fetches.{number_free}
use Rattle.journal_read.proofs.Cells.{IsFree, joined_cells}

pub free_append : (mark : ℕ) (a b : List ℕ) → IsFree mark a → IsFree mark b → IsFree mark (a ++ b)
free_append mark [] b fa fb = fb
free_append mark (x ∷ xs) b fa fb =
    All-cons (λ y. eqb y mark ≡ false) x (xs ++ b) (fa 0 0 (omega arith)) (free_append mark xs b (λ k d h. fa (suc k) d (omega arith)) fb)

-- texts that are written out hold no comma
free_by : (text : List ℕ) → list_all (λ b. not (eqb b 44)) text ≡ true → IsFree 44 text
free_by [] e = All-nil (λ y. eqb y 44 ≡ false)
free_by (x ∷ xs) e =
    let parts = and_parts (not (eqb x 44)) (list_all (λ b. not (eqb b 44)) xs) e in
    All-cons (λ y. eqb y 44 ≡ false) x xs (not-true (eqb x 44) parts.0) (free_by xs parts.1)

free_number : (n : ℕ) → n < 2 ^ 64 → IsFree 44 (decimal n)
free_number n small = number_free 44 n (omega arith) small

free_code : (code : ℤ) → is_code code ≡ true → IsFree 44 (signed_decimal code)
free_code (pos n) is = let h = leb-true n 999 is in free_number n (omega arith)
free_code (negsuc n) is =
    let h = leb-true n 9997 is in
    All-cons (λ y. eqb y 44 ≡ false) 45 (decimal (suc n)) refl (free_number (suc n) (omega arith))

free_cut : (cut : Option Cut) → AllByRecursion (IsFree 44) (cut_notes cut)
free_cut None = tt
free_cut (Some Length) = (free_by (codes "trunc:length") refl, tt)
free_cut (Some Disconnect) = (free_by (codes "trunc:disconnect") refl, tt)

free_tries : (b : Bool) (tries : ℕ) → tries < 2 ^ 64 → AllByRecursion (IsFree 44) (if b then [] else (codes "tries:" ++ decimal tries) ∷ [])
free_tries true tries small = tt
free_tries false tries small = (free_append 44 (codes "tries:") (decimal tries) (free_by (codes "tries:") refl) (free_number tries small), tt)

free_cause : (b : Bool) (cause : ℤ) → is_code cause ≡ true → AllByRecursion (IsFree 44) (if b then [] else (codes "cause:" ++ signed_decimal cause) ∷ [])
free_cause true cause is = tt
free_cause false cause is = (free_append 44 (codes "cause:") (signed_decimal cause) (free_by (codes "cause:") refl) (free_code cause is), tt)

-- the list of notes
abbrev pub listed : Notes → List (List ℕ)
listed notes = cut_notes notes.cut ++ tries_notes notes.tries ++ cause_notes notes.cause

pub free_listed : (notes : Notes) → IsNotes notes → AllByRecursion (IsFree 44) (listed notes)
free_listed notes is =
    all_append (IsFree 44) (cut_notes notes.cut ++ tries_notes notes.tries) (cause_notes notes.cause)
    (all_append (IsFree 44) (cut_notes notes.cut) (tries_notes notes.tries) (free_cut notes.cut) (free_tries (nat_lt notes.tries 2) notes.tries (omega (arith, is.tries))))
    (free_cause (int_eq notes.cause (pos 0)) notes.cause (cause_code notes.cause is.cause))

-- `-` where there is no note
abbrev pub dashed : List (List ℕ) → List (List ℕ)
dashed [] = (45 ∷ []) ∷ []
dashed (note ∷ notes) = note ∷ notes

pub joined_listed : (notes : List (List ℕ)) → AllByRecursion (IsFree 44) notes → cells 44 (joined_notes notes) ≡ dashed notes
joined_listed [] all = refl
joined_listed (note ∷ notes) all = joined_cells 44 note notes all.0 all.1

-- the fourth byte of the first note tells which it is
abbrev fourth : List (List ℕ) → ℕ
fourth notes = get_or (get_or notes 0 []) 3 0

abbrev tries_by : Bool → ℕ → List (List ℕ)
tries_by b tries = if b then [] else (codes "tries:" ++ decimal tries) ∷ []

abbrev cause_by : Bool → ℤ → List (List ℕ)
cause_by b cause = if b then [] else (codes "cause:" ++ signed_decimal cause) ∷ []

not_tries : (b : Bool) (cause : ℤ) → fourth (cause_by b cause) ≡ 101 → ⊥
not_tries true cause e = omega (arith, e)
not_tries false cause e = omega (arith, e)

not_cut : (b d : Bool) (tries : ℕ) (cause : ℤ) → fourth (tries_by b tries ++ cause_by d cause) ≡ 110 → ⊥
not_cut true true tries cause e = omega (arith, e)
not_cut true false tries cause e = omega (arith, e)
not_cut false d tries cause e = omega (arith, e)

some_fourth : (cut : Option Cut) (b d : Bool) (tries : ℕ) (cause : ℤ) → ((cut_notes cut ++ tries_by b tries) ++ cause_by d cause ≡ []) ⊎ (100 < fourth ((cut_notes cut ++ tries_by b tries) ++ cause_by d cause))
some_fourth (Some Length) b d tries cause = inr (omega arith)
some_fourth (Some Disconnect) b d tries cause = inr (omega arith)
some_fourth None false d tries cause = inr (omega arith)
some_fourth None true false tries cause = inr (omega arith)
some_fourth None true true tries cause = inl refl

undash : (a b : List (List ℕ)) → (a ≡ []) ⊎ (100 < fourth a) → (b ≡ []) ⊎ (100 < fourth b) → dashed a ≡ dashed b → a ≡ b
undash [] [] ha hb e = refl
undash [] (n ∷ ns) ha hb e = ⊎_elim (λ none. absurd (cc)) (λ some. absurd (let z : 0 ≡ fourth (n ∷ ns) = ap fourth e in omega arith)) hb
undash (n ∷ ns) [] ha hb e = ⊎_elim (λ none. absurd (cc)) (λ some. absurd (let z : fourth (n ∷ ns) ≡ 0 = ap fourth e in omega arith)) ha
undash (n ∷ ns) (m ∷ ms) ha hb e = e

peel_cut : (c d : Option Cut) (r s : List (List ℕ)) → (fourth r ≡ 110 → ⊥) → (fourth s ≡ 110 → ⊥) → cut_notes c ++ r ≡ cut_notes d ++ s → (c ≡ d) × (r ≡ s)
peel_cut None None r s hr hs e = (refl, e)
peel_cut None (Some Length) r s hr hs e = absurd (hr (ap fourth e))
peel_cut None (Some Disconnect) r s hr hs e = absurd (hr (ap fourth e))
peel_cut (Some Length) None r s hr hs e = absurd (hs (ap fourth (sym e)))
peel_cut (Some Disconnect) None r s hr hs e = absurd (hs (ap fourth (sym e)))
peel_cut (Some Length) (Some Length) r s hr hs e = (refl, ap (drop 1) e)
peel_cut (Some Disconnect) (Some Disconnect) r s hr hs e = (refl, ap (drop 1) e)
peel_cut (Some Length) (Some Disconnect) r s hr hs e = absurd (omega (arith, ap (λ (l : List (List ℕ)). length (get_or l 0 [])) e))
peel_cut (Some Disconnect) (Some Length) r s hr hs e = absurd (omega (arith, ap (λ (l : List (List ℕ)). length (get_or l 0 [])) e))

peel_tries : (b d : Bool) (t u : ℕ) (r s : List (List ℕ)) → (fourth r ≡ 101 → ⊥) → (fourth s ≡ 101 → ⊥) → tries_by b t ++ r ≡ tries_by d u ++ s → (b ≡ d) × (b ≡ false → decimal t ≡ decimal u) × (r ≡ s)
peel_tries true true t u r s hr hs e = (refl, (λ f. absurd (false≢true (sym f))), e)
peel_tries true false t u r s hr hs e = absurd (hr (ap fourth e))
peel_tries false true t u r s hr hs e = absurd (hs (ap fourth (sym e)))
peel_tries false false t u r s hr hs e = (refl, (λ f. ap (λ (l : List (List ℕ)). drop 6 (get_or l 0 [])) e), ap (drop 1) e)

peel_cause : (b d : Bool) (c k : ℤ) → cause_by b c ≡ cause_by d k → (b ≡ d) × (b ≡ false → signed_decimal c ≡ signed_decimal k)
peel_cause true true c k e = (refl, λ f. absurd (false≢true (sym f)))
peel_cause true false c k e = absurd (cc)
peel_cause false true c k e = absurd (cc)
peel_cause false false c k e = (refl, λ f. ap (λ (l : List (List ℕ)). drop 6 (get_or l 0 [])) e)

pub code_small : (code : ℤ) → is_code code ≡ true → mag code < 2 ^ 63
code_small (pos n) is = let h = leb-true n 999 is in omega arith
code_small (negsuc n) is = let h = leb-true n 9997 is in omega arith

same_tries : (t u : ℕ) → 1 ≤ t → t < 2 ^ 32 → 1 ≤ u → u < 2 ^ 32 → nat_lt t 2 ≡ nat_lt u 2 → (nat_lt t 2 ≡ false → decimal t ≡ decimal u) → t ≡ u
same_tries t u lt ht lu hu b e =
    ⊎_elim
    (λ one. let a = ltb-true t 2 one in let c = ltb-true u 2 (sym b ∙ one) in omega arith)
    (λ more. decimal_injective t u (omega arith) (omega arith) (e more))
    (cases_Bool (nat_lt t 2))

same_cause : (c k : ℤ) → is_code c ≡ true → is_code k ≡ true → int_eq c (pos 0) ≡ int_eq k (pos 0) → (int_eq c (pos 0) ≡ false → signed_decimal c ≡ signed_decimal k) → c ≡ k
same_cause c k hc hk b e =
    ⊎_elim
    (λ none. (Decides-int_eq c (pos 0)).0 none ∙ sym ((Decides-int_eq k (pos 0)).0 (sym b ∙ none)))
    (λ some. signed_decimal_injective c k (code_small c hc) (code_small k hk) (e some))
    (cases_Bool (int_eq c (pos 0)))

pub notes_same : (x y : Notes) → IsNotes x → IsNotes y → notes_field x ≡ notes_field y → x ≡ y
notes_same x y hx hy e =
    let bx = nat_lt x.tries 2 in
    let by = nat_lt y.tries 2 in
    let dx = int_eq x.cause (pos 0) in
    let dy = int_eq y.cause (pos 0) in
    let all : dashed (listed x) ≡ dashed (listed y) = sym (joined_listed (listed x) (free_listed x hx)) ∙ (ap (cells 44) e ∙ joined_listed (listed y) (free_listed y hy)) in
    let lists : listed x ≡ listed y = undash (listed x) (listed y) (some_fourth x.cut bx dx x.tries x.cause) (some_fourth y.cut by dy y.tries y.cause) all in
    let grouped : cut_notes x.cut ++ (tries_by bx x.tries ++ cause_by dx x.cause) ≡ cut_notes y.cut ++ (tries_by by y.tries ++ cause_by dy y.cause) =
    sym (append_assoc (cut_notes x.cut) (tries_by bx x.tries) (cause_by dx x.cause)) ∙ (lists ∙ append_assoc (cut_notes y.cut) (tries_by by y.tries) (cause_by dy y.cause)) in
    let cuts = peel_cut x.cut y.cut _ _ (not_cut bx dx x.tries x.cause) (not_cut by dy y.tries y.cause) grouped in
    let tries = peel_tries bx by x.tries y.tries (cause_by dx x.cause) (cause_by dy y.cause) (not_tries dx x.cause) (not_tries dy y.cause) cuts.1 in
    let causes = peel_cause dx dy x.cause y.cause tries.2 in
    let t = same_tries x.tries y.tries hx.first hx.tries hy.first hy.tries tries.0 tries.1 in
    let k = same_cause x.cause y.cause (cause_code x.cause hx.cause) (cause_code y.cause hy.cause) causes.0 causes.1 in
    λ i. record { cut = cuts.0 i; tries = t i; cause = k i }
