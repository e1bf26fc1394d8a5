-- Which of candidates are added: one candidate after another, and against the history.
use Rattle.std.proofs.Common.{◌≡◌, ℕ, Bool, true, false, ◌||◌, cond, List, [], ◌∷◌, ◌++◌, refl, sym, ◌∙◌, ap}
use Rattle.std.specs.Prelude.{Result, Ok, Err, OnOk, filter, bytes_eq, if◌then◌else◌}
use Rattle.std.specs.List.{list_any}
use Rattle.std.specs.Ordering.{nat_cmp}
use Rattle.std.specs.Cmp.Lexicographic.{slice_cmp}
use Rattle.std.specs.BTreeMap.{BTreeMap}
use Rattle.std.specs.BTreeSet as set
use Rattle.std.specs.BTreeSet.{BTreeSet}
use Rattle.std.proofs.lemmas.List.{append-nil}
use Rattle.std.proofs.lemmas.List.Elements.{filter-append}
use Rattle.std.proofs.lemmas.List.Folds.{list_any-append}
use Rattle.std.proofs.lemmas.Map.Text.{is_eq-slice_cmp}
use Rattle.crawl_kinds.specs.declared.item.Item.{Item}
use Rattle.crawl_history.specs.Scans.{distinct, distinct_from}
use Rattle.crawl_history.specs.Adds.{same_key}
use Rattle.crawl_history.specs.Places.{has_key}
use Rattle.scope_spec.specs.Decision.{ScopeRules}
use Rattle.frontier_memo.specs.declared.known.Known.{Known}
use Rattle.frontier_adds.specs.Candidates.{is_taken, taken}

-- ---- one element more, each once

module _ {X : Type 0} (e : X → X → Bool) (x : X) where
  distinct_from-snoc :
      (seen xs : List X)
      → distinct_from e seen (xs ++ x ∷ []) ≡ distinct_from e seen xs ++ (if list_any (e x) seen || list_any (e x) (distinct_from e seen xs) then [] else x ∷ [])
  distinct_from-snoc seen [] = by_seen (list_any (e x) seen)
    where
      by_seen : (b : Bool) → (if b then [] else x ∷ []) ≡ (if b || false then [] else x ∷ [])
      by_seen true = refl
      by_seen false = refl
  distinct_from-snoc seen (y ∷ xs) = by_test (list_any (e y) seen) (distinct_from-snoc seen xs) (distinct_from-snoc (y ∷ seen) xs)
    where
      swap : (a b c : Bool) → ((a || b) || c) ≡ (b || (a || c))
      swap true true c = refl
      swap true false c = refl
      swap false true c = refl
      swap false false c = refl

      by_test :
          (b : Bool)
          → distinct_from e seen (xs ++ x ∷ []) ≡ distinct_from e seen xs ++ (if list_any (e x) seen || list_any (e x) (distinct_from e seen xs) then [] else x ∷ [])
          → distinct_from e (y ∷ seen) (xs ++ x ∷ []) ≡ distinct_from e (y ∷ seen) xs ++ (if list_any (e x) (y ∷ seen) || list_any (e x) (distinct_from e (y ∷ seen) xs) then [] else x ∷ [])
          → (if b then distinct_from e seen (xs ++ x ∷ []) else y ∷ distinct_from e (y ∷ seen) (xs ++ x ∷ []))
          ≡ (if b then distinct_from e seen xs else y ∷ distinct_from e (y ∷ seen) xs)
          ++ (if list_any (e x) seen || list_any (e x) (if b then distinct_from e seen xs else y ∷ distinct_from e (y ∷ seen) xs) then [] else x ∷ [])
      by_test true skipped more = skipped
      by_test false skipped more =
          ap (λ zs. y ∷ zs) more
          ∙ ap (λ b. y ∷ (distinct_from e (y ∷ seen) xs ++ (if b then [] else x ∷ []))) (swap (e x y) (list_any (e x) seen) (list_any (e x) (distinct_from e (y ∷ seen) xs)))

  pub distinct-snoc : (xs : List X) → distinct e (xs ++ x ∷ []) ≡ distinct e xs ++ (if list_any (e x) (distinct e xs) then [] else x ∷ [])
  distinct-snoc xs = distinct_from-snoc [] xs

-- ---- one candidate more

-- one that is not taken, and one that is, unless its key was
pub one_more :
    (places : BTreeMap (List ℕ) Known) (scope : ScopeRules) (xs : List Item) (x : Item) (b : Bool) → is_taken places scope x ≡ b
    → taken places scope (xs ++ x ∷ [])
    ≡ (if b then taken places scope xs ++ (if list_any (has_key x.key) (taken places scope xs) then [] else x ∷ []) else taken places scope xs)
one_more places scope xs x b is =
    ap (distinct same_key)
    (filter-append (is_taken places scope) xs (x ∷ []) ∙ ap (λ b. filter (is_taken places scope) xs ++ cond b (x ∷ []) []) is)
    ∙ by_taken b
  where
    by_taken :
        (b : Bool) → distinct same_key (filter (is_taken places scope) xs ++ cond b (x ∷ []) [])
        ≡ (if b then taken places scope xs ++ (if list_any (has_key x.key) (taken places scope xs) then [] else x ∷ []) else taken places scope xs)
    by_taken true = distinct-snoc same_key x (filter (is_taken places scope) xs)
    by_taken false = ap (distinct same_key) (append-nil (filter (is_taken places scope) xs))

-- ---- the keys that were seen

-- with the key of one item more
pub seen_more :
    (old new : BTreeSet (List ℕ)) (k : List ℕ) (item : Item) (items : List Item) → k ≡ item.key
    → set.Updates (slice_cmp nat_cmp) old new k true
    → ((key : List ℕ) → set.contains (slice_cmp nat_cmp) old key ≡ list_any (has_key key) items)
    → (key : List ℕ) → set.contains (slice_cmp nat_cmp) new key ≡ list_any (has_key key) (items ++ item ∷ [])
seen_more old new k item items e updates is key =
    updates.0 key
    ∙ ap (λ b. cond b true (set.contains (slice_cmp nat_cmp) old key)) (is_eq-slice_cmp k key ∙ ap (λ x. bytes_eq x key) e)
    ∙ ap (λ b. cond (has_key key item) true b) (is key)
    ∙ by_cases (has_key key item) (list_any (has_key key) items)
    ∙ sym (list_any-append (has_key key) items (item ∷ []))
  where
    by_cases : (b c : Bool) → cond b true c ≡ (c || (b || false))
    by_cases true true = refl
    by_cases true false = refl
    by_cases false true = refl
    by_cases false false = refl

-- ---- the loop's step

pub choose_step :
    (places : BTreeMap (List ℕ) Known) (scope decider : ScopeRules) (xs : List Item) (x : Item) (items after : List Item) (b : Bool)
    → decider ≡ scope → b ≡ is_taken places decider x → items ≡ taken places scope xs
    → after ≡ (if b then items ++ (if list_any (has_key x.key) items then [] else x ∷ []) else items)
    → after ≡ taken places scope (xs ++ x ∷ [])
choose_step places scope decider xs x items after b same tests so_far is =
    is
    ∙ ap (λ is. if b then is ++ (if list_any (has_key x.key) is then [] else x ∷ []) else is) so_far
    ∙ sym (one_more places scope xs x b (sym (tests ∙ ap (λ s. is_taken places s x) same)))

-- what a success says, and what follows from it
pub on_ok-weaker : {X E : Type 0} (A B : Type 0) → (A → B) → (r : Result X E) → OnOk r A → OnOk r B
on_ok-weaker A B f (Ok x) a = f a
on_ok-weaker A B f (Err e) a = tt
