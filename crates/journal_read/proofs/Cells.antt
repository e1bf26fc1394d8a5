-- Texts between marks, and texts joined by marks.
use Rattle.std.proofs.Common.{◌≡◌, ℕ, ◌+◌, ◌-◌, ◌<◌, ◌≤◌, Bool, true, false, eqb, ltb, List, [], ◌∷◌, ◌++◌, length, take, drop, get_or, All, Option, Some, None, refl, sym, ap, ◌∙◌, ⊎_elim, add-one, drop-cons, arith}
use Rattle.std.specs.List.{AllByRecursion, join_with_byte, list_all, position, position_or_len}
use Rattle.std.proofs.lemmas.Bool.{eqb-true, cases_Bool, both_ways, and_parts, false_from_ne_true, ltb-true, ltb-false, lt-ltb, le-ltb, cond-true, cond-false}
use Rattle.std.proofs.lemmas.Bool.Decides.{nat_tests}
use Rattle.std.proofs.lemmas.Grind.{common_steps}
use Rattle.std.proofs.lemmas.List.{take-append-drop}
use Rattle.std.proofs.lemmas.List.Sums.{fails_before_first, position_or_len_is}
use Rattle.std.proofs.lemmas.List.Quantifiers.{position-Some}
use Rattle.std.proofs.lemmas.List.Elements.{All-cons, All-nil}
use Rattle.std.proofs.lemmas.List.Splits.{length-slice_split, slice_split_none, slice_split_at, slice_split_first, join_with_byte-slice_split}
use Rattle.memchr.specs.Find.{IsFirstByte, is_byte}
use Rattle.crawl_kinds.specs.Text.{is_visible}
use Rattle.journal_read.specs.Reading.{cells, AreVisible}

-- the first place, as a search finds it
pub place_found : (mark : ℕ) (text : List ℕ) (r : Option ℕ) → IsFirstByte (is_byte mark) text r → r ≡ position (λ b. eqb b mark) text
place_found mark text None none =
    let p : ℕ → Bool = λ b. eqb b mark in
    let past : position_or_len p text ≡ length text =
    position_or_len_is p text (length text) 0 (omega arith) (λ k h. false_from_ne_true _ (none k (omega arith) h)) (λ h. absurd (omega arith)) in
    sym (cond-false (ltb (position_or_len p text) (length text)) (Some (position_or_len p text)) None (le-ltb (position_or_len p text) (length text) (omega arith)))
place_found mark text (Some i) found =
    let p : ℕ → Bool = λ b. eqb b mark in
    let inside : i < length text = found.0.high in
    let here : position_or_len p text ≡ i =
    position_or_len_is p text i 0 (omega arith) (λ k h. false_from_ne_true _ (found.0.before k (omega arith) h)) (λ _. found.1) in
    sym (cond-true (ltb (position_or_len p text) (length text)) (Some (position_or_len p text)) None (lt-ltb (position_or_len p text) (length text) (omega arith)) ∙ ap Some here)

-- no mark is there
abbrev pub IsFree : ℕ → List ℕ → Type 0
IsFree mark text = All (λ x. eqb x mark ≡ false) text

eq-same : (m : ℕ) → eqb m m ≡ true
eq-same m = grind (arith, nat_tests)

place : (p : ℕ → Bool) (text : List ℕ) (i : ℕ) → position p text ≡ Some i → (position_or_len p text < length text) × (position_or_len p text ≡ i)
place p text i e =
    ⊎_elim
    (λ inside. (ltb-true _ _ inside, (let s = cond-true (ltb (position_or_len p text) (length text)) (Some (position_or_len p text)) None inside in cc)))
    (λ past. absurd (let n = cond-false (ltb (position_or_len p text) (length text)) (Some (position_or_len p text)) None past in cc))
    (cases_Bool (ltb (position_or_len p text) (length text)))

pub absent : (p : ℕ → Bool) (text : List ℕ) → position p text ≡ None → length text ≤ position_or_len p text
absent p text e =
    ⊎_elim
    (λ inside. absurd (let s = cond-true (ltb (position_or_len p text) (length text)) (Some (position_or_len p text)) None inside in cc))
    (λ past. ltb-false _ _ past)
    (cases_Bool (ltb (position_or_len p text) (length text)))

pub cells_cut : (mark : ℕ) (text : List ℕ) (i : ℕ) → position (λ b. eqb b mark) text ≡ Some i → cells mark text ≡ take i text ∷ cells mark (drop (i + 1) text)
cells_cut mark text i e =
    let h = place (λ b. eqb b mark) text i e in
    let s = slice_split_first (λ b. eqb b mark) text 0 h.0 in
    rw (h.1) at s

pub cells_whole : (mark : ℕ) (text : List ℕ) → position (λ b. eqb b mark) text ≡ None → cells mark text ≡ text ∷ []
cells_whole mark text e =
    slice_split_none (λ b. eqb b mark) text (λ k d h. fails_before_first (λ b. eqb b mark) text k d (let a = absent (λ b. eqb b mark) text e in omega arith))

pub whole_cut : (mark : ℕ) (text : List ℕ) (i : ℕ) → position (λ b. eqb b mark) text ≡ Some i → text ≡ take i text ++ mark ∷ drop (i + 1) text
whole_cut mark text i e =
    let at = position-Some (λ b. eqb b mark) text i 0 e in
    let same : get_or text i 0 ≡ mark = eqb-true _ _ at.1 in
    sym (take-append-drop i text) ∙ ap (λ rest. take i text ++ rest) (drop-cons text i 0 at.0 ∙ rw (same, add-one) refl)

pub cells_some : (mark : ℕ) (text : List ℕ) → cells mark text ≡ [] → ⊥
cells_some mark text e =
    let l = length-slice_split (λ b. eqb b mark) text in
    absurd (omega (arith, l, ap length e))

pub one_cell : (mark : ℕ) (text x : List ℕ) → cells mark text ≡ x ∷ [] → text ≡ x
one_cell mark text x e = sym (join_with_byte-slice_split mark text) ∙ ap (join_with_byte mark) e

pub joined_cells : (mark : ℕ) (first : List ℕ) (parts : List (List ℕ)) → IsFree mark first → AllByRecursion (IsFree mark) parts → cells mark (join_with_byte mark (first ∷ parts)) ≡ first ∷ parts
joined_cells mark first [] free all = slice_split_none (λ b. eqb b mark) first free
joined_cells mark first (second ∷ parts) free all =
    slice_split_at (λ b. eqb b mark) first mark (join_with_byte mark (second ∷ parts)) free (eq-same mark) ∙ ap (λ rest. first ∷ rest) (joined_cells mark second parts all.0 all.1)

pub free_from_visible : (mark : ℕ) (text : List ℕ) → is_visible mark ≡ false → AreVisible text → IsFree mark text
free_from_visible mark [] hidden visible = All-nil _
free_from_visible mark (x ∷ xs) hidden visible =
    let parts = and_parts (is_visible x) (list_all is_visible xs) visible in
    All-cons (λ y. eqb y mark ≡ false) x xs
    (⊎_elim (λ same. absurd (both_ways (is_visible x) (ap is_visible (eqb-true x mark same) ∙ hidden) parts.0)) (λ other. other) (cases_Bool (eqb x mark)))
    (free_from_visible mark xs hidden parts.1)

-- what stands behind a place, as a slice of the text
pub behind : (text : List ℕ) (n : ℕ) → take (length text - n) (drop n text) ≡ drop n text
behind text n = grind (arith, common_steps)

pub slice_cut : (mark : ℕ) (text : List ℕ) (i : ℕ) → position (λ b. eqb b mark) text ≡ Some i → cells mark text ≡ take i text ∷ cells mark (take (length text - (i + 1)) (drop (i + 1) text))
slice_cut mark text i e = rw (behind text (i + 1)) (cells_cut mark text i e)

pub slice_whole : (mark : ℕ) (text : List ℕ) (i : ℕ) → position (λ b. eqb b mark) text ≡ Some i → text ≡ take i text ++ mark ∷ take (length text - (i + 1)) (drop (i + 1) text)
slice_whole mark text i e = rw (behind text (i + 1)) (whole_cut mark text i e)
