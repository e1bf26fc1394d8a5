-- The last add of a key is one of the adds, and no other has its ordinal.
use Rattle.std.proofs.Common.{◌≡◌, ℕ, ◌+◌, ◌≤◌, Bool, true, false, ◌&&◌, ◌||◌, List, [], ◌∷◌, refl, sym, ◌∙◌, ap, arith, ◌==◌, Option, Some, None}
use Rattle.std.specs.Prelude.{if◌then◌else◌}
use Rattle.std.specs.List.{list_any}
use Rattle.std.specs.Option.{option_or}
use Rattle.std.proofs.lemmas.Grind.{common_steps}
use Rattle.crawl_kinds.specs.declared.item.Item.{Item}
use Rattle.crawl_history.specs.Places.{has_key}
use Rattle.crawl_history.specs.Queues.{ordinal_at, Add, adds_from}
use Rattle.crawl_history.specs.Scans.{last_of}
use Rattle.history_steps.specs.ScansStep.{one_if}
use Rattle.history_laws.proofs.Counting.{number, number-cons}
use Rattle.history_laws.proofs.Lists.{and_false, same_some}

abbrev pub last_ordinal : List ℕ → ℕ → List Item → Option ℕ
last_ordinal key n xs = last_of (ordinal_at key) (adds_from n xs)

-- the adds of the key with this ordinal
abbrev pub has_ordinal : List ℕ → ℕ → Add → Bool
has_ordinal key o a = has_key key a.item && a.ordinal == o

abbrev pub first_add : ℕ → Item → Add
first_add n x = record { ordinal = n; item = x }

-- without an add of the key nothing is counted
pub number-no_add : (key : List ℕ) (n : ℕ) (xs : List Item) (q : Add → Bool) → last_ordinal key n xs ≡ None → number (λ a. has_key key a.item && q a) (adds_from n xs) ≡ 0
number-no_add key n [] q e = refl
number-no_add key n (x ∷ xs) q e =
    at_head (last_ordinal key (n + 1) xs) (has_key key x) refl e (number-no_add key (n + 1) xs q)
  where
    at_head :
        (r : Option ℕ) (b : Bool) → has_key key x ≡ b → option_or r (if b then Some n else None) ≡ None
        → (r ≡ None → number (λ a. has_key key a.item && q a) (adds_from (n + 1) xs) ≡ 0)
        → number (λ a. has_key key a.item && q a) (first_add n x ∷ adds_from (n + 1) xs) ≡ 0
    at_head (Some o) b g e rest = cc e
    at_head None true g e rest = cc e
    at_head None false g e rest =
        number-cons (λ a. has_key key a.item && q a) (first_add n x) (adds_from (n + 1) xs)
        ∙ ap (λ b. one_if (b && q (first_add n x)) + number (λ a. has_key key a.item && q a) (adds_from (n + 1) xs)) g
        ∙ ap (λ m. 0 + m) (rest refl)

-- the last ordinal is one of those given, and stands once
pub record StandsOnce (key : List ℕ) (n : ℕ) (xs : List Item) (o : ℕ) : Type 0 where
  pub above : n ≤ o
  pub once : number (has_ordinal key o) (adds_from n xs) ≡ 1

pub last_ordinal-once : (key : List ℕ) (n : ℕ) (xs : List Item) (o : ℕ) → last_ordinal key n xs ≡ Some o → StandsOnce key n xs o
last_ordinal-once key n [] o e = cc e
last_ordinal-once key n (x ∷ xs) o e =
    at_head (last_ordinal key (n + 1) xs) refl (has_key key x) refl e (last_ordinal-once key (n + 1) xs)
  where
    not_first : (n o : ℕ) → n + 1 ≤ o → (n == o) ≡ false
    not_first n o h = grind (arith, common_steps)

    same_first : (n : ℕ) → (n == n) ≡ true
    same_first n = grind (arith, common_steps)

    at_head :
        (r : Option ℕ) → last_ordinal key (n + 1) xs ≡ r → (b : Bool) → has_key key x ≡ b → option_or r (if b then Some n else None) ≡ Some o
        → ((m : ℕ) → r ≡ Some m → StandsOnce key (n + 1) xs m)
        → StandsOnce key n (x ∷ xs) o
    at_head (Some m) f b g e rest =
        let here : StandsOnce key (n + 1) xs o = rest o e in
        record {
          above = omega (arith, here.above);
          once =
              number-cons (has_ordinal key o) (first_add n x) (adds_from (n + 1) xs)
              ∙ ap (λ t. one_if (has_key key x && t) + number (has_ordinal key o) (adds_from (n + 1) xs)) (not_first n o here.above)
              ∙ ap (λ t. one_if t + number (has_ordinal key o) (adds_from (n + 1) xs)) (and_false (has_key key x))
              ∙ ap (λ m. 0 + m) here.once;
        }
    at_head None f true g e rest =
        let same : n ≡ o = same_some n o e in
        record {
          above = omega (arith, same);
          once =
              number-cons (has_ordinal key o) (first_add n x) (adds_from (n + 1) xs)
              ∙ ap (λ t. one_if (t && (n == o)) + number (has_ordinal key o) (adds_from (n + 1) xs)) g
              ∙ ap (λ m. one_if (n == m) + number (has_ordinal key o) (adds_from (n + 1) xs)) (sym same)
              ∙ ap (λ t. one_if t + number (has_ordinal key o) (adds_from (n + 1) xs)) (same_first n)
              ∙ ap (λ m. 1 + m) (number-no_add key (n + 1) xs (λ a. a.ordinal == o) f);
        }
    at_head None f false g e rest = cc e

-- a key that was added has a last ordinal
pub last_ordinal-any : (key : List ℕ) (n : ℕ) (xs : List Item) → list_any (λ a. has_key key a.item) (adds_from n xs) ≡ true → (o : ℕ) × (last_ordinal key n xs ≡ Some o)
last_ordinal-any key n [] e = cc e
last_ordinal-any key n (x ∷ xs) e =
    at_head (last_ordinal key (n + 1) xs) (has_key key x) (list_any (λ a. has_key key a.item) (adds_from (n + 1) xs)) e (last_ordinal-any key (n + 1) xs)
  where
    at_head :
        (r : Option ℕ) (b m : Bool) → (b || m) ≡ true → (m ≡ true → (o : ℕ) × (r ≡ Some o))
        → (o : ℕ) × (option_or r (if b then Some n else None) ≡ Some o)
    at_head (Some o) b m e rest = (o, refl)
    at_head None true m e rest = (n, refl)
    at_head None false m e rest = rest e
