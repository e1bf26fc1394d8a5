-- Equal segments in a row.
use Rattle.std.proofs.Common.{◌≡◌, ◌∙◌, ℕ, zero, suc, ◌+◌, ◌<◌, ◌≤◌, Bool, true, false, ◌&&◌, ◌||◌, cond, nat_lt, nat_le, List, [], ◌∷◌, ◌++◌, length, replicate, drop, get_or, add-zero, append_assoc, bytes_eq, refl, sym, ap, subst, arith}
use Rattle.std.specs.List.{prefix_len}
use Rattle.std.proofs.lemmas.Bool.Decides.{nat_tests}
use Rattle.std.proofs.lemmas.Grind.{common_steps}
use Rattle.std.proofs.lemmas.List.{drop_more, replicate_more}
use Rattle.std.proofs.lemmas.Slice.Eq.{bytes_eq-Decides}
use Rattle.scope_spec.specs.Answer.{has_run}
use Rattle.scope_rules.specs.Runs.{run_with, is_too_long}

some_more : (a b c : Bool) → a ≡ true → b ≡ true → ((a && b) || c) ≡ true
some_more true true c p q = refl
some_more true false c p q = cc
some_more false b c p q = cc

none_here : (a b c : Bool) → (a ≡ true → b ≡ false) → ((a && b) || c) ≡ c
none_here true b c h = rw (h refl) refl
none_here false b c h = refl

-- a row of equal elements is a front that passes
prefix-row : {X : Type 0} (p : X → Bool) (x : X) (n : ℕ) (rest : List X) → p x ≡ true → prefix_len p (replicate n x ++ rest) ≡ n + prefix_len p rest
prefix-row p x zero rest is = grind (arith, common_steps)
prefix-row p x (suc n) rest is = let more = prefix-row p x n rest is in rw is (omega arith)

and_left : (a b : Bool) → (a && b) ≡ true → a ≡ true
and_left true b e = refl
and_left false b e = e

and_right : (a b : Bool) → (a && b) ≡ true → b ≡ true
and_right true b e = e
and_right false b e = cc

same_bytes : (x : List ℕ) → bytes_eq x x ≡ true
same_bytes x = (bytes_eq-Decides x x).1 refl

-- a run that is longer than `max` is found
pub run_found : (max n : ℕ) (x : List ℕ) (rest : List (List ℕ)) → is_too_long max n x ≡ true → has_run max (replicate n x ++ rest) ≡ true
run_found max zero x rest long = absurd (grind (arith, nat_tests))
run_found max (suc n) x rest long =
    let row = prefix-row (bytes_eq x) x n rest (same_bytes x) in
    let some : nat_lt 0 (length x) ≡ true = grind (arith, nat_tests) in
    let most : nat_le max (prefix_len (bytes_eq x) (replicate n x ++ rest)) ≡ true = grind (arith, nat_tests) in
    some_more (nat_lt 0 (length x)) (nat_le max (prefix_len (bytes_eq x) (replicate n x ++ rest))) (has_run max (replicate n x ++ rest)) some most

few : (max n m : ℕ) → suc n ≤ max → m ≡ n → nat_le max m ≡ false
few max n m low is = grind (arith, nat_tests)

positive : (n : ℕ) → nat_lt 0 n ≡ true → 0 < n
positive n h = grind (arith, nat_tests)

-- a run that is no longer, and is not continued, is none
run_short : (max n : ℕ) (x : List ℕ) (rest : List (List ℕ)) → (0 < length x → (n ≤ max) × (prefix_len (bytes_eq x) rest ≡ 0)) → has_run max (replicate n x ++ rest) ≡ has_run max rest
run_short max zero x rest h = refl
run_short max (suc n) x rest h =
    let counted = prefix-row (bytes_eq x) x n rest (same_bytes x) in
    none_here (nat_lt 0 (length x)) (nat_le max (prefix_len (bytes_eq x) (replicate n x ++ rest))) (has_run max (replicate n x ++ rest))
    (λ some. let at = h (positive (length x) some) in few max n (prefix_len (bytes_eq x) (replicate n x ++ rest)) at.0 (counted ∙ ap (λ m. n + m) at.1 ∙ add-zero n))
    ∙ run_short max n x rest (λ at. (let low = (h at).0 in omega arith, (h at).1))

ends : (last segment : List ℕ) (more : List (List ℕ)) → (nat_lt 0 (length segment) && bytes_eq last segment) ≡ false → 0 < length last → (b : Bool) → bytes_eq last segment ≡ b → cond b (1 + prefix_len (bytes_eq last) more) 0 ≡ 0
ends last segment more not some true e =
    let same = (bytes_eq-Decides last segment).0 e in
    let long : 0 < length segment = subst (λ s. 0 < length s) same some in
    grind (arith, nat_tests)
ends last segment more not some false e = refl

-- one segment more: it continues the run, or begins one
step : (max run : ℕ) (last segment : List ℕ) (more : List (List ℕ)) → (0 < length last → run ≤ max) → (b : Bool) → (nat_lt 0 (length segment) && bytes_eq last segment) ≡ b
    → has_run max (replicate run last ++ segment ∷ more) ≡ has_run max (replicate (cond b (run + 1) 1) segment ++ more)
step max run last segment more low true e =
    let same : last ≡ segment = (bytes_eq-Decides last segment).0 (and_right _ _ e) in
    ap (λ x. has_run max (replicate run x ++ segment ∷ more)) same
    ∙ ap (has_run max) (sym (append_assoc (replicate run segment) (segment ∷ []) more) ∙ ap (λ row. row ++ more) (replicate_more run segment))
step max run last segment more low false e =
    run_short max run last (segment ∷ more) (λ some. (low some, ends last segment more e some (bytes_eq last segment) refl))

-- the same, in a walk over all segments
pub turn : (max run : ℕ) (last segment : List ℕ) (all : List (List ℕ)) (k : ℕ) → has_run max all ≡ has_run max (replicate run last ++ drop k all) → (0 < length last → run ≤ max)
    → (k < length all) × (segment ≡ get_or all k segment) → has_run max all ≡ has_run max (replicate (run_with run last segment) segment ++ drop (k + 1) all)
turn max run last segment all k same low at =
    let front : drop k all ≡ segment ∷ drop (k + 1) all = drop_more all k segment at.0 ∙ ap (λ x. x ∷ drop (k + 1) all) (sym at.1) in
    same ∙ ap (λ rest. has_run max (replicate run last ++ rest)) front ∙ step max run last segment (drop (k + 1) all) low _ refl

-- at the end there is no run
pub over : (max run : ℕ) (last : List ℕ) → (0 < length last → run ≤ max) → has_run max (replicate run last ++ []) ≡ false
over max run last low = run_short max run last [] (λ some. (low some, refl))

-- a run that is not too long is short
pub short_with : (max run : ℕ) (segment : List ℕ) → is_too_long max run segment ≡ false → 0 < length segment → run ≤ max
short_with max run segment not some = grind (arith, nat_tests)

bound_by : (max run : ℕ) (last segment : List ℕ) → (0 < length last → run ≤ max) → (b : Bool) → (nat_lt 0 (length segment) && bytes_eq last segment) ≡ b → cond b (run + 1) 1 ≤ max + 1
bound_by max run last segment low true e =
    let same : last ≡ segment = (bytes_eq-Decides last segment).0 (and_right _ _ e) in
    let some : 0 < length segment = positive (length segment) (and_left _ _ e) in
    let bound : run ≤ max = low (subst (λ s. 0 < length s) (sym same) some) in
    omega arith
bound_by max run last segment low false e = omega arith

pub bound_with : (max run : ℕ) (last segment : List ℕ) → (0 < length last → run ≤ max) → run_with run last segment ≤ max + 1
bound_with max run last segment low = bound_by max run last segment low _ refl
