-- Bytes that are a text: few enough, and each allowed.
use Rattle.std.proofs.Common.{◌≡◌, ℕ, ◌≤◌, Bool, true, false, not, List, [], ◌∷◌, ◌++◌, length, None, All, refl, arith}
use Rattle.std.specs.Prelude.{nat_lt, position}
use Rattle.std.specs.List.{prefix_len, list_all}
use Rattle.std.proofs.lemmas.Bool.{and_parts}
use Rattle.std.proofs.lemmas.Bool.Decides.{nat_tests}
use Rattle.std.proofs.lemmas.List.Elements.{All-cons, All-head, All-tail}
use Rattle.url.proofs.InputLemmas.{Passes}
use Rattle.crawl_kinds.specs.Text.{text_fault}

prefix_of_all : (p : ℕ → Bool) (xs : List ℕ) → All (Passes p) xs → prefix_len (λ b. not (not (p b))) xs ≡ length xs
prefix_of_all p [] all = refl
prefix_of_all p (x ∷ xs) all =
    let rest = prefix_of_all p xs (All-tail (Passes p) x xs all) in
    let here : p x ≡ true = All-head (Passes p) x xs all in
    rw here (omega (arith, rest))

none_stands : (p : ℕ → Bool) (xs : List ℕ) → All (Passes p) xs → position (λ b. not (p b)) xs ≡ None
none_stands p xs all =
    let len = prefix_of_all p xs all in
    rw len (grind (arith, nat_tests))

-- a literal of bytes that pass, before others that do
pub All-literal : (p : ℕ → Bool) (xs ys : List ℕ) → list_all p xs ≡ true → All (Passes p) ys → All (Passes p) (xs ++ ys)
All-literal p [] ys all rest = rest
All-literal p (x ∷ xs) ys all rest =
    let both = and_parts (p x) (list_all p xs) all in
    All-cons (Passes p) x (xs ++ ys) both.0 (All-literal p xs ys both.1 rest)

-- bytes that are few enough, each of which passes, have no fault
pub fits : (p : ℕ → Bool) (most : ℕ) (xs : List ℕ) → length xs ≤ most → All (Passes p) xs → text_fault p most xs ≡ None
fits p most xs few all =
    let none = none_stands p xs all in
    let short : nat_lt most (length xs) ≡ false = grind (arith, nat_tests) in
    rw (short, none) refl
