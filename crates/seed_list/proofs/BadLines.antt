-- The first bad line of a list of lines.
use Rattle.std.proofs.Common.{◌≡◌, ◌⊎◌, ℕ, suc, ◌+◌, ◌<◌, ◌≤◌, true, cond, List, ◌∷◌, ◌++◌, length, take, drop, get_or, inl, inr, sym, ap, subst, ◌∙◌, arith, length-append}
use Rattle.std.specs.Prelude.{count_by}
use Rattle.std.proofs.Math.Seq.{get_or-append_seam, split_at, take-append_seam}
use Rattle.std.proofs.lemmas.List.{get_or_append_left, take-append-le}
use Rattle.std.proofs.lemmas.List.Sums.{sum_by-append, sum_by-cons}
use Rattle.seed_list.specs.Lines.{is_seed_line}
use Rattle.seed_list.specs.Bad.{AreGood, IsBadLine, most_seeds}

-- the longer of two fronts of one list holds the shorter one and what follows it
front_of : (xs ys us vs : List (List ℕ)) (x y : List ℕ) → xs ++ x ∷ us ≡ ys ++ y ∷ vs → length xs < length ys
    → ys ≡ xs ++ x ∷ drop (suc (length xs)) ys
front_of xs ys us vs x y same lt =
    let n = length xs in
    let front : take n ys ≡ xs =
    sym (take-append-le n ys (y ∷ vs) (omega arith)) ∙ ap (λ (l : List (List ℕ)). take n l) (sym same) ∙ take-append_seam xs (x ∷ us) in
    let here : get_or ys n x ≡ x =
    sym (get_or_append_left ys (y ∷ vs) x n lt) ∙ ap (λ (l : List (List ℕ)). get_or l n x) (sym same) ∙ get_or-append_seam xs x us x in
    split_at ys n x lt ∙ ap (λ (l : List (List ℕ)). l ++ get_or ys n x ∷ drop (suc n) ys) front ∙ ap (λ (l : List ℕ). xs ++ l ∷ drop (suc n) ys) here

-- among good lines none is bad
pub none_bad : (refused : List ℕ → Type 0) (before after : List (List ℕ)) (line : List ℕ) → AreGood refused (before ++ line ∷ after)
    → refused line ⊎ ((is_seed_line line ≡ true) × (most_seeds ≤ count_by is_seed_line before)) → ⊥
none_bad refused before after line good (inl bad) =
    let lt : length before < length (before ++ line ∷ after) = omega (arith, length-append before (line ∷ after)) in
    good.taken (length before) line lt (subst refused (sym (get_or-append_seam before line after line)) bad)
none_bad refused before after line good (inr bad) =
    let f : List ℕ → ℕ = λ l. cond (is_seed_line l) 1 0 in
    let one : f line ≡ 1 = ap (λ b. cond b 1 0) bad.0 in
    let parts : count_by is_seed_line (before ++ line ∷ after) ≡ count_by is_seed_line before + count_by is_seed_line (line ∷ after) = sum_by-append f before (line ∷ after) in
    let head : count_by is_seed_line (line ∷ after) ≡ f line + count_by is_seed_line after = sum_by-cons f line after in
    omega (arith, parts, head, one, good.room, bad.1)

pub good_has_none : (refused : List ℕ → Type 0) (all : List (List ℕ)) (n : ℕ) → AreGood refused all → IsBadLine refused all n → ⊥
good_has_none refused all n good bad =
    none_bad refused bad.before bad.after bad.line (subst (λ (l : List (List ℕ)). AreGood refused l) bad.whole good) bad.bad

not_before : (refused : List ℕ → Type 0) (all : List (List ℕ)) (n m : ℕ) → IsBadLine refused all n → IsBadLine refused all m → n < m → ⊥
not_before refused all n m one other lt =
    let front = front_of one.before other.before one.after other.after one.line other.line (sym one.whole ∙ other.whole) (omega (arith, one.number, other.number)) in
    none_bad refused one.before (drop (suc (length one.before)) other.before) one.line (subst (λ (l : List (List ℕ)). AreGood refused l) front other.good) one.bad

pub one_number : (refused : List ℕ → Type 0) (all : List (List ℕ)) (n m : ℕ) → IsBadLine refused all n → IsBadLine refused all m → n ≡ m
one_number refused all n m one other =
    let less : n < m → ⊥ = not_before refused all n m one other in
    let more : m < n → ⊥ = not_before refused all m n other one in
    omega (arith, less, more)
