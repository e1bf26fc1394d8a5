-- What a cut of a text at a mark says of its parts between marks.
use Rattle.std.proofs.Common.{◌≡◌, ◌≢◌, ℕ, ◌+◌, ◌<◌, ◌≤◌, Bool, true, false, List, [], ◌∷◌, ◌++◌, length, get_or, take, drop, Some, None, All, Bor, refl, sym, ap, ◌∙◌, ⊎_elim, arith, take-append-drop}
use Rattle.std.specs.Prelude.{Option, MatchOption}
use Rattle.std.specs.List.{slice_split, onto_first}
use Rattle.std.specs.Str.Pattern.{RFindsChar}
use Rattle.std.proofs.Common.{eqb}
use Rattle.std.proofs.lemmas.Bool.{cases_Bool, cond-true, ne_eqb, eq-eqb}
use Rattle.std.proofs.lemmas.List.Elements.{All-from_get_or}
use Rattle.std.proofs.lemmas.List.Splits.{slice_split_none, slice_split_at, length-slice_split}
use Rattle.std.proofs.lemmas.Str.Pattern.{NoCharPasses-char, drop_at_char, split_parts, IsSplitOnceResult}

no_mark : (c : ℕ) (xs : List ℕ) → ((i : ℕ) → i < length xs → get_or xs i 0 ≢ c) → All (λ x. eqb x c ≡ false) xs
no_mark c xs none = All-from_get_or (λ x. eqb x c ≡ false) xs 0 (λ i inside. ne_eqb _ c (none i inside))

-- what `split_once` gives at a mark
pub first_cut : (c : ℕ) (bs : List ℕ) (r : Option (Bor (List ℕ) × Bor (List ℕ))) → IsSplitOnceResult c bs r → c < 128 → MatchOption r (slice_split (λ b. eqb b c) bs ≡ bs ∷ []) (λ x. slice_split (λ b. eqb b c) bs ≡ x.0.now ∷ slice_split (λ b. eqb b c) x.1.now)
first_cut c bs None h low = slice_split_none (λ b. eqb b c) bs (no_mark c bs (split_parts c bs None h low))
first_cut c bs (Some x) h low =
    let parts = split_parts c bs (Some x) h low in
    ap (slice_split (λ b. eqb b c)) parts.0 ∙ slice_split_at (λ b. eqb b c) x.0.now c x.1.now (no_mark c x.0.now parts.1) (eq-eqb c c refl)

onto_first-append : (x : ℕ) (a b : List (List ℕ)) → 0 < length a → onto_first x (a ++ b) ≡ onto_first x a ++ b
onto_first-append x [] b some = absurd (omega (arith, some))
onto_first-append x (part ∷ parts) b some = refl

-- the parts of two texts with a mark between are those of the one and of the other
pub slice_split-append : (p : ℕ → Bool) (xs : List ℕ) (y : ℕ) (ys : List ℕ) → p y ≡ true → slice_split p (xs ++ y ∷ ys) ≡ slice_split p xs ++ slice_split p ys
slice_split-append p [] y ys mark = cond-true _ _ _ mark
slice_split-append p (x ∷ xs) y ys mark =
    let rest = slice_split-append p xs y ys mark in
    let some : 0 < length (slice_split p xs) = omega (arith, length-slice_split p xs) in
    ⊎_elim
    (λ yes. rw yes (ap (λ parts. [] ∷ parts) rest))
    (λ no. rw no (ap (onto_first x) rest ∙ onto_first-append x (slice_split p xs) (slice_split p ys) some))
    (cases_Bool (p x))

-- what `rsplit_once` gives at a mark
pub last_cut : (c : ℕ) (bs : List ℕ) (r : Option (Bor (List ℕ) × Bor (List ℕ))) → MatchOption r (RFindsChar c bs None) (λ x. (i : ℕ) × (j : ℕ) × RFindsChar c bs (Some (i, j)) × (x.0.now ≡ take i bs) × (x.1.now ≡ drop j bs) × (i ≤ j) × (length x.0.now ≡ i) × (length x.1.now + j ≡ length bs)) → c < 128 → MatchOption r (slice_split (λ b. eqb b c) bs ≡ bs ∷ []) (λ x. slice_split (λ b. eqb b c) bs ≡ slice_split (λ b. eqb b c) x.0.now ++ x.1.now ∷ [])
last_cut c bs None h low = slice_split_none (λ b. eqb b c) bs (no_mark c bs (λ i inside. NoCharPasses-char c bs i h low inside))
last_cut c bs (Some x) h low =
    let i = h.0 in
    let j = h.1 in
    let spelled : bs ≡ take i bs ++ c ∷ drop j bs = sym (take-append-drop i bs) ∙ ap (λ t. take i bs ++ t) (drop_at_char c bs i j h.2.1 low) in
    let one = slice_split_none (λ b. eqb b c) (drop j bs) (no_mark c (drop j bs) (λ k inside. NoCharPasses-char c (drop j bs) k h.2.0 low inside)) in
    ap (slice_split (λ b. eqb b c)) spelled ∙ slice_split-append (λ b. eqb b c) (take i bs) c (drop j bs) (eq-eqb c c refl)
    ∙ ap (λ t. slice_split (λ b. eqb b c) (take i bs) ++ t) one
    ∙ (λ k. slice_split (λ b. eqb b c) (sym h.3 k) ++ sym h.4 k ∷ [])
