-- What is computed of a robots file is what its rules say.
use Rattle.std.proofs.Common.{◌≡◌, ℕ, ◌≤◌, Bool, true, false, ◌||◌, not, ◌==◌, List, [], ◌∷◌, ◌++◌, length, refl, sym, ◌∙◌, ap, arith, suc, zero, ⊎_elim}
use Rattle.std.specs.Prelude.{◌&&◌, IsTrue, nat_le, if◌then◌else◌}
use Rattle.std.specs.Bool.{MatchBool, Decides}
use Rattle.std.specs.List.{list_any, list_all, Contains}
use Rattle.std.proofs.lemmas.Bool.Decides.{Decides-eqb, Decides-not, Decides-and, Decides-or, leb_tells}
use Rattle.std.proofs.lemmas.Slice.Eq.{bytes_eq-Decides}
use Rattle.robots_spec.specs.declared.Rule.{Rule}
use Rattle.robots_spec.specs.Lines.{is_star}
use Rattle.robots_spec.specs.Patterns.{AfterRun, FollowedBy, LiesOn, Matches, is_dollar}
use Rattle.robots_spec.specs.Verdict.{Allows, IsLongest, robots_file}
use Rattle.core_facts.specs.RobotsAnswer.{some_rest, is_followed, lies_on, matches, is_longest, allows_path}

-- a test and the fact that it computes
abbrev Says : (List ℕ → Bool) → (List ℕ → Type 0) → Type 0
Says p P = (path : List ℕ) → (p path ≡ true → P path) × (P path → p path ≡ true)

or_true : (b : Bool) → (b || true) ≡ true
or_true true = refl
or_true false = refl

rest_to : (p : List ℕ → Bool) (P : List ℕ → Type 0) → Says p P → (path : List ℕ) → some_rest p path ≡ true → AfterRun P path
rest_to p P says [] h = ([], [], refl, (says []).0 h)
rest_to p P says (x ∷ xs) h = by_test (p (x ∷ xs)) refl h (rest_to p P says xs)
  where
    by_test : (b : Bool) → p (x ∷ xs) ≡ b → (b || some_rest p xs) ≡ true → (some_rest p xs ≡ true → AfterRun P xs) → AfterRun P (x ∷ xs)
    by_test true is h more = ([], x ∷ xs, refl, (says (x ∷ xs)).0 is)
    by_test false is h more = let after = more h in (x ∷ after.0, after.1, ap (λ ys. x ∷ ys) after.2, after.3)

rest_from : (p : List ℕ → Bool) (P : List ℕ → Type 0) → Says p P → (run rest : List ℕ) → P rest → some_rest p (run ++ rest) ≡ true
rest_from p P says [] [] h = (says []).1 h
rest_from p P says [] (y ∷ rest) h = ap (λ b. b || some_rest p rest) ((says (y ∷ rest)).1 h)
rest_from p P says (x ∷ run) rest h = ap (λ b. p (x ∷ (run ++ rest)) || b) (rest_from p P says run rest h) ∙ or_true (p (x ∷ (run ++ rest)))

and_true : (a b : Bool) → (a && b) ≡ true → (a ≡ true) × (b ≡ true)
and_true true b h = (refl, h)
and_true false b h = cc

both_true : (a b : Bool) → a ≡ true → b ≡ true → (a && b) ≡ true
both_true a b h k = ap (λ a. a && b) h ∙ k

follow_to : (b : ℕ) (p : List ℕ → Bool) (P : List ℕ → Type 0) → Says p P → (path : List ℕ) → is_followed b p path ≡ true → FollowedBy b P path
follow_to b p P says [] h = cc
follow_to b p P says (x ∷ xs) h = let parts = and_true _ _ h in (xs, ap (λ y. y ∷ xs) ((Decides-eqb x b).0 parts.0), (says xs).0 parts.1)

follow_from : (b : ℕ) (p : List ℕ → Bool) (P : List ℕ → Type 0) → Says p P → (path : List ℕ) → FollowedBy b P path → is_followed b p path ≡ true
follow_from b p P says path (rest, is, h) = ap (is_followed b p) is ∙ both_true _ _ ((Decides-eqb b b).1 refl) ((says rest).1 h)

empty_to : (xs : List ℕ) → (length xs == 0) ≡ true → xs ≡ []
empty_to [] h = refl
empty_to (x ∷ xs) h = let clash = (Decides-eqb (length (x ∷ xs)) 0).0 h in absurd (omega (arith, clash))

lies : (pattern : List ℕ) → Says (lies_on pattern) (LiesOn pattern)
lies [] path = (λ h. tt, λ h. refl)
lies (b ∷ pattern) path = by_star (is_star b) (is_dollar b && length pattern == 0) (lies pattern)
  where
    by_star :
        (star last : Bool) → Says (lies_on pattern) (LiesOn pattern)
        → ((if star then some_rest (lies_on pattern) path else if last then length path == 0 else is_followed b (lies_on pattern) path) ≡ true
        → MatchBool star (AfterRun (LiesOn pattern) path) (MatchBool last (path ≡ []) (FollowedBy b (LiesOn pattern) path)))
        × (MatchBool star (AfterRun (LiesOn pattern) path) (MatchBool last (path ≡ []) (FollowedBy b (LiesOn pattern) path))
        → (if star then some_rest (lies_on pattern) path else if last then length path == 0 else is_followed b (lies_on pattern) path) ≡ true)
    by_star true last more = (rest_to _ _ more path, λ after. ap (some_rest (lies_on pattern)) after.2 ∙ rest_from _ _ more after.0 after.1 after.3)
    by_star false true more = (empty_to path, λ is. ap (λ xs. length xs == 0) is)
    by_star false false more = (follow_to b _ _ more path, follow_from b _ _ more path)

-- ---- rules

pub matches_decides : (pattern path : List ℕ) → Decides (matches pattern path) (Matches pattern path)
matches_decides pattern path =
    Decides-and _ _ (Decides-not _ (empty_to pattern, λ is. ap (λ xs. length xs == 0) is)) (lies pattern path)

all_to : {X : Type 0} (p : X → Bool) (xs : List X) → list_all p xs ≡ true → (x : X) → Contains xs x → p x ≡ true
all_to p [] h x (k, lt, is) = absurd (omega arith)
all_to p (y ∷ ys) h x (zero, lt, is) = ap p (sym is) ∙ (and_true _ _ h).0
all_to p (y ∷ ys) h x (suc k, lt, is) = all_to p ys (and_true _ _ h).1 x (k, omega arith, is)

there : {X : Type 0} (y : X) (ys : List X) (x : X) → Contains ys x → Contains (y ∷ ys) x
there y ys x (k, lt, is) = (suc k, omega arith, is)

all_from : {X : Type 0} (p : X → Bool) (xs : List X) → ((x : X) → Contains xs x → p x ≡ true) → list_all p xs ≡ true
all_from p [] h = refl
all_from p (y ∷ ys) h = both_true _ _ (h y (0, omega arith, refl)) (all_from p ys (λ x c. h x (there y ys x c)))

any_to : {X : Type 0} (p : X → Bool) (xs : List X) → list_any p xs ≡ true → (x : X) × Contains xs x × (p x ≡ true)
any_to p [] h = cc
any_to {X} p (y ∷ ys) h = by_test (p y) refl h (any_to p ys)
  where
    by_test : (b : Bool) → p y ≡ b → (b || list_any p ys) ≡ true → (list_any p ys ≡ true → (x : X) × Contains ys x × (p x ≡ true)) → (x : X) × Contains (y ∷ ys) x × (p x ≡ true)
    by_test true is h more = (y, (0, omega arith, refl), is)
    by_test false is h more = let one = more h in (one.0, there y ys one.0 one.1, one.2)

any_from : {X : Type 0} (p : X → Bool) (xs : List X) (x : X) → Contains xs x → p x ≡ true → list_any p xs ≡ true
any_from p [] x (k, lt, is) h = absurd (omega arith)
any_from p (y ∷ ys) x (zero, lt, is) h = ap (λ b. b || list_any p ys) (ap p is ∙ h)
any_from p (y ∷ ys) x (suc k, lt, is) h = ap (λ b. p y || b) (any_from p ys x (k, omega arith, is) h) ∙ or_true (p y)

le_decides : (a b : ℕ) → Decides (nat_le a b) (a ≤ b)
le_decides a b = ⊎_elim (λ yes_le. (λ h. yes_le.1, λ h. yes_le.0)) (λ not_le. (λ h. cc, λ h. absurd (omega (arith, not_le.1)))) (leb_tells a b)

if_to : {M L : Type 0} (m l : Bool) → Decides m M → Decides l L → (not m || l) ≡ true → M → L
if_to {M} {L} m l dm dl h is = by_test m (dm.1 is) h
  where
    by_test : (b : Bool) → b ≡ true → (not b || l) ≡ true → L
    by_test true e h = dl.0 h
    by_test false e h = cc

if_from : {M L : Type 0} (m l : Bool) → Decides m M → Decides l L → (M → L) → (not m || l) ≡ true
if_from m l dm dl h = by_test m refl
  where
    by_test : (b : Bool) → m ≡ b → (not b || l) ≡ true
    by_test true e = dl.1 (h (dm.0 e))
    by_test false e = refl

module _ (rules : List Rule) (path : List ℕ) where
  longest_to : (rule : Rule) → Contains rules rule → is_longest rules path rule ≡ true → IsLongest rules path rule
  longest_to rule one h =
      let parts = and_true _ _ h in
      record {
        one_of = one;
        matches = (matches_decides rule.pattern path).0 parts.0;
        longest = λ other c. if_to _ _ (matches_decides other.pattern path) (le_decides (length other.pattern) (length rule.pattern)) (all_to _ rules parts.1 other c);
      }

  longest_from : (rule : Rule) → IsLongest rules path rule → is_longest rules path rule ≡ true
  longest_from rule is =
      both_true _ _ ((matches_decides rule.pattern path).1 is.matches)
      (all_from _ rules (λ other c. if_from _ _ (matches_decides other.pattern path) (le_decides (length other.pattern) (length rule.pattern)) (is.longest other c)))

  none_decides : Decides (list_all (λ rule. not (matches rule.pattern path)) rules) ((rule : Rule) → Contains rules rule → ¬ Matches rule.pattern path)
  none_decides = (
    λ h rule c. (Decides-not _ (matches_decides rule.pattern path)).0 (all_to _ rules h rule c),
    λ h. all_from _ rules (λ rule c. (Decides-not _ (matches_decides rule.pattern path)).1 (h rule c)),
  )

  some_decides : Decides (list_any (λ rule. is_longest rules path rule && rule.allows) rules) ((rule : Rule) × IsLongest rules path rule × IsTrue rule.allows)
  some_decides = (
    λ h. let one = any_to _ rules h in let parts = and_true _ _ one.2 in (one.0, longest_to one.0 one.1 parts.0, parts.1),
    λ one. any_from _ rules one.0 one.1.one_of (both_true _ _ (longest_from one.0 one.1) one.2),
  )

  pub allows_decides : Decides (allows_path rules path) (Allows rules path)
  allows_decides = Decides-or _ _ (bytes_eq-Decides path robots_file) (Decides-or _ _ none_decides some_decides)
