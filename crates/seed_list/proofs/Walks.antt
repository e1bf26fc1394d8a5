-- A walk over the numbered pieces of a text, whose lines are these pieces without the blanks at their ends.
use Rattle.std.proofs.Common.{◌≡◌, ◌⊎◌, ℕ, suc, ◌+◌, ◌<◌, ◌≤◌, Bool, true, cond, eqb, Bor, List, [], ◌∷◌, ◌++◌, length, map, take, drop, get_or, Option, Some, None, refl, sym, ap, subst, ◌∙◌, arith}
use Rattle.std.specs.Prelude.{count_by}
use Rattle.std.specs.Iterator.{Yields}
use Rattle.std.specs.List.{enumerate_from, slice_split}
use Rattle.std.proofs.Math.Seq.{split_at}
use Rattle.std.proofs.lemmas.Iterator.{YieldsList}
use Rattle.std.proofs.lemmas.Iterator.Consumers.{YieldsList-end, YieldsList-so_far, YieldsList-turn}
use Rattle.std.proofs.lemmas.List.{map-append, take-map, get_or-map, length-map}
use Rattle.std.proofs.lemmas.List.FromFn.{get_or-enumerate_from, length-enumerate_from}
use Rattle.std.proofs.lemmas.List.Splits.{length-slice_split}
use Rattle.std.proofs.lemmas.List.Sums.{count_by-le-length, sum_by-append, sum_by-cons}
use Rattle.seed_list.specs.Bad.{AreGood, IsBadLine, most_seeds}
use Rattle.seed_list.specs.Lines.{is_seed_line, line_feed, lines, trimmed}

-- the numbered pieces that a walk gave
abbrev pub Pieces : Type 0
Pieces = List (ℕ × Bor (List ℕ))

-- their lines
abbrev pub walked : Pieces → List (List ℕ)
walked pieces = map (λ piece. trimmed piece.1.now) pieces

-- a number, and what its piece holds
abbrev pub numbered : ℕ × Bor (List ℕ) → ℕ × List ℕ
numbered piece = (piece.0, piece.1.now)

abbrev line_of : ℕ × List ℕ → List ℕ
line_of piece = trimmed piece.1

walked_is : (pieces : Pieces) → walked pieces ≡ map line_of (map numbered pieces)
walked_is [] = refl
walked_is (piece ∷ pieces) = ap (λ (l : List (List ℕ)). trimmed piece.1.now ∷ l) (walked_is pieces)

lines_is : (n : ℕ) (texts : List (List ℕ)) → map line_of (enumerate_from n texts) ≡ map trimmed texts
lines_is n [] = refl
lines_is n (text ∷ texts) = ap (λ (l : List (List ℕ)). trimmed text ∷ l) (lines_is (n + 1) texts)

pub walked_push : (pieces : Pieces) (piece : ℕ × Bor (List ℕ)) → walked (pieces ++ piece ∷ []) ≡ walked pieces ++ trimmed piece.1.now ∷ []
walked_push pieces piece = map-append (λ (p : ℕ × Bor (List ℕ)). trimmed p.1.now) pieces (piece ∷ [])

-- the place of a walk at a piece
pub record IsAt (text : List ℕ) (before : List (List ℕ)) (count : ℕ) (line : List ℕ) : Type 0 where
  pub after : List (List ℕ)
  pub whole : lines text ≡ before ++ line ∷ after
  pub number : count ≡ length before
  pub within : count ≤ length text

cut_at : (all before : List (List ℕ)) (k : ℕ) (line : List ℕ) → before ≡ take k all → k < length all → line ≡ get_or all k line
    → all ≡ before ++ line ∷ drop (suc k) all
cut_at all before k line front lt is =
    split_at all k line lt ∙ ap (λ (l : List ℕ). take k all ++ l ∷ drop (suc k) all) (sym is)
    ∙ ap (λ (l : List (List ℕ)). l ++ line ∷ drop (suc k) all) (sym front)

pub at_turn : {S : Type 0} {steps : S → Option (ℕ × Bor (List ℕ)) → S → Type 0} {s : S} (text : List ℕ)
    (road : YieldsList steps numbered s (enumerate_from 0 (slice_split (λ b. eqb b line_feed) text)))
    (pieces : Pieces) (t : S) → Yields steps s pieces t
    → (r : Option (ℕ × Bor (List ℕ))) (u : S) (piece : ℕ × Bor (List ℕ)) → r ≡ Some piece → steps t r u
    → IsAt text (walked pieces) piece.0 (trimmed piece.1.now)
at_turn text road pieces t yielded r u piece is step =
    let texts : List (List ℕ) = slice_split (λ b. eqb b line_feed) text in
    let all : List (ℕ × List ℕ) = enumerate_from 0 texts in
    let k = length pieces in
    let front : map numbered pieces ≡ take k all = YieldsList-so_far road pieces t yielded in
    let turn : (k < length all) × (numbered piece ≡ get_or all k (numbered piece)) = YieldsList-turn road pieces t yielded r u piece is step in
    let count : length all ≡ length texts = length-enumerate_from 0 texts in
    let lt : k < length texts = omega (arith, turn.0, count) in
    let here : numbered piece ≡ (0 + k, get_or texts k piece.1.now) = turn.1 ∙ get_or-enumerate_from 0 texts k (numbered piece) lt in
    let before : walked pieces ≡ take k (map trimmed texts) =
    walked_is pieces ∙ ap (λ (l : List (ℕ × List ℕ)). map line_of l) front ∙ sym (take-map line_of k all)
    ∙ ap (λ (l : List (List ℕ)). take k l) (lines_is 0 texts) in
    let line : trimmed piece.1.now ≡ get_or (map trimmed texts) k (trimmed piece.1.now) =
    ap (λ (p : ℕ × List ℕ). trimmed p.1) here ∙ sym (get_or-map trimmed texts k piece.1.now (trimmed piece.1.now) lt) in
    let number : piece.0 ≡ 0 + k = ap (λ (p : ℕ × List ℕ). p.0) here in
    let long : length (map trimmed texts) ≡ length texts = length-map texts trimmed in
    record {
      after = drop (suc k) (map trimmed texts);
      whole = cut_at (map trimmed texts) (walked pieces) k (trimmed piece.1.now) before (omega (arith, lt, long)) line;
      number = omega (arith, number, length-map pieces (λ (p : ℕ × Bor (List ℕ)). trimmed p.1.now));
      within = omega (arith, number, lt, length-slice_split (λ b. eqb b line_feed) text, count_by-le-length (λ b. eqb b line_feed) text);
    }

pub at_end : {S : Type 0} {steps : S → Option (ℕ × Bor (List ℕ)) → S → Type 0} {s : S} (text : List ℕ)
    (road : YieldsList steps numbered s (enumerate_from 0 (slice_split (λ b. eqb b line_feed) text)))
    (pieces : Pieces) (t : S) → Yields steps s pieces t
    → (r : Option (ℕ × Bor (List ℕ))) (u : S) → r ≡ None → steps t r u → walked pieces ≡ lines text
at_end text road pieces t yielded r u is step =
    let texts : List (List ℕ) = slice_split (λ b. eqb b line_feed) text in
    let all : map numbered pieces ≡ enumerate_from 0 texts = (YieldsList-end road pieces t yielded r u is step).0 in
    walked_is pieces ∙ ap (λ (l : List (ℕ × List ℕ)). map line_of l) all ∙ lines_is 0 texts

pub bad_at : (refused : List ℕ → Type 0) (text : List ℕ) (before : List (List ℕ)) (count n : ℕ) (line found : List ℕ)
    → IsAt text before count line → count + 1 ≡ n → found ≡ line → AreGood refused before
    → refused found ⊎ ((is_seed_line found ≡ true) × (most_seeds ≤ count_by is_seed_line before)) → IsBadLine refused (lines text) n
bad_at refused text before count n line found place number same good bad =
    let P : List ℕ → Type 0 = λ l. refused l ⊎ ((is_seed_line l ≡ true) × (most_seeds ≤ count_by is_seed_line before)) in
    record {
      before = before;
      line = line;
      after = place.after;
      whole = place.whole;
      number = sym number ∙ ap (λ (k : ℕ). k + 1) place.number;
      good = good;
      bad = subst P same bad;
    }

-- the lines before a place have no more seeds than all
pub fewer : (text : List ℕ) (before : List (List ℕ)) (count : ℕ) (line : List ℕ) → IsAt text before count line
    → count_by is_seed_line before ≤ count_by is_seed_line (lines text)
fewer text before count line place =
    let f : List ℕ → ℕ = λ l. cond (is_seed_line l) 1 0 in
    let parts : count_by is_seed_line (before ++ line ∷ place.after) ≡ count_by is_seed_line before + count_by is_seed_line (line ∷ place.after) = sum_by-append f before (line ∷ place.after) in
    let whole : count_by is_seed_line (lines text) ≡ count_by is_seed_line (before ++ line ∷ place.after) = ap (λ (l : List (List ℕ)). count_by is_seed_line l) place.whole in
    omega (arith, parts, whole)

-- lines are counted by their pieces
pub counted : {X Y : Type 0} (p : Y → Bool) (f : X → Y) (xs : List X) → count_by (λ x. p (f x)) xs ≡ count_by p (map f xs)
counted p f [] = refl
counted {X} {Y} p f (x ∷ xs) =
    sum_by-cons (λ (y : X). cond (p (f y)) 1 0) x xs
    ∙ ap (λ (n : ℕ). cond (p (f x)) 1 0 + n) (counted p f xs)
    ∙ sym (sum_by-cons (λ (y : Y). cond (p y) 1 0) (f x) (map f xs))
