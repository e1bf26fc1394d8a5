-- That what is added is new: no key of it waits, and each item has its own.
use Rattle.std.proofs.Common.{◌≡◌, ℕ, ◌/◌, ◌==◌, Bool, true, false, ◌||◌, not, cond, List, [], ◌∷◌, ◌++◌, refl, sym, subst, ◌∙◌, ap, Option, Some, None}
use Rattle.std.specs.Prelude.{◌&&◌, filter, nat_abs, if◌then◌else◌}
use Rattle.std.specs.List.{list_any, AllByRecursion}
use Rattle.std.specs.BTreeMap.{BTreeMap}
use Rattle.std.proofs.lemmas.List.Folds.{list_any-append}
use Rattle.crawl_kinds.specs.declared.event.End.{End}
use Rattle.crawl_kinds.specs.declared.event.Outcome.{Outcome}
use Rattle.crawl_kinds.specs.declared.event.Outcome.TheVariants.{Success, Failure, Disregard, Retry}
use Rattle.crawl_kinds.specs.declared.event.Place.{Place}
use Rattle.crawl_kinds.specs.declared.event.Place.TheVariants.{Absent, Waiting, Done}
use Rattle.crawl_kinds.specs.declared.event.Verdict.{Verdict}
use Rattle.crawl_kinds.specs.declared.event.Verdict.TheVariants.{Allowed, Precluded, Needed, Unsupported, Unreachable}
use Rattle.crawl_kinds.specs.declared.item.Item.{Item}
use Rattle.crawl_history.specs.Adds.{same_key}
use Rattle.crawl_history.specs.History.{History}
use Rattle.crawl_history.specs.Outcomes.{is_prerequisite}
use Rattle.crawl_history.specs.Places.{has_key, is_absent, is_waiting, place_of}
use Rattle.crawl_history.specs.Scans.{distinct_from}
use Rattle.scope_spec.specs.Decision.{ScopeRules}
use Rattle.extract_spec.specs.declared.found.Found.{Found}
use Rattle.frontier_memo.specs.declared.known.Known.{Known}
use Rattle.frontier_memo.specs.Keeping.{are_free}
use Rattle.frontier_memo.specs.Laws.{are_new}
use Rattle.frontier_memo.proofs.Keeping.{are_free-same}
use Rattle.frontier_memo.proofs.Lists.{all-weaker}
use Rattle.frontier_adds.specs.Candidates.{found_redirect, is_taken, kept_place, link_items, robots_of, redirected_to, taken}
use Rattle.frontier_adds.specs.KeptAdds.{unless_kept_waiting, redirect_adds, came_adds, fetched_adds, kept_adds}
use Rattle.frontier_adds.specs.Shown.{KeepsPlaces}

filtered : {X : Type 0} (p : X → Bool) (xs : List X) → AllByRecursion (λ x. p x ≡ true) (filter p xs)
filtered p [] = tt
filtered p (x ∷ xs) = by_test (p x) refl (filtered p xs)
  where
    by_test : (b : Bool) → p x ≡ b → AllByRecursion (λ x. p x ≡ true) (filter p xs) → AllByRecursion (λ x. p x ≡ true) (cond b (x ∷ filter p xs) (filter p xs))
    by_test true is rest = (is, rest)
    by_test false is rest = rest

all-distinct_from : {X : Type 0} (P : X → Type 0) (e : X → X → Bool) (seen xs : List X) → AllByRecursion P xs → AllByRecursion P (distinct_from e seen xs)
all-distinct_from P e seen [] all = tt
all-distinct_from P e seen (x ∷ xs) all = by_test (list_any (e x) seen) (all-distinct_from P e seen xs all.1) (all-distinct_from P e (x ∷ seen) xs all.1)
  where
    by_test :
        (b : Bool) → AllByRecursion P (distinct_from e seen xs) → AllByRecursion P (distinct_from e (x ∷ seen) xs)
        → AllByRecursion P (if b then distinct_from e seen xs else x ∷ distinct_from e (x ∷ seen) xs)
    by_test true skipped more = skipped
    by_test false skipped more = (all.0, more)

last_part : (a b : Bool) → (a && b) ≡ true → b ≡ true
last_part true b h = h
last_part false b h = cc

-- what is nowhere does not wait
absent_idle : (a : Bool) (p : Place) → (a && is_absent p) ≡ true → is_waiting p ≡ false
absent_idle true Absent h = refl
absent_idle true Waiting h = cc
absent_idle true (Done code) h = cc
absent_idle false p h = cc

-- no key waits of items each with its own, of which none waits
free_distinct :
    (waits : List ℕ → Bool) (seen earlier xs : List Item) → ((key : List ℕ) → list_any (has_key key) earlier ≡ list_any (has_key key) seen)
    → AllByRecursion (λ i. waits i.key ≡ false) (distinct_from same_key seen xs) → are_free waits earlier (distinct_from same_key seen xs) ≡ true
free_distinct waits seen earlier [] same none = refl
free_distinct waits seen earlier (x ∷ xs) same none = by_test (list_any (same_key x) seen) refl none (free_distinct waits seen earlier xs same) (free_distinct waits (x ∷ seen) (earlier ++ x ∷ []) xs more)
  where
    swap : (a b : Bool) → (a || (b || false)) ≡ (b || a)
    swap true true = refl
    swap true false = refl
    swap false true = refl
    swap false false = refl

    more : (key : List ℕ) → list_any (has_key key) (earlier ++ x ∷ []) ≡ list_any (has_key key) (x ∷ seen)
    more key = list_any-append (has_key key) earlier (x ∷ []) ∙ swap (list_any (has_key key) earlier) (has_key key x) ∙ ap (λ b. has_key key x || b) (same key)

    by_test :
        (b : Bool) → list_any (same_key x) seen ≡ b
        → AllByRecursion (λ i. waits i.key ≡ false) (if b then distinct_from same_key seen xs else x ∷ distinct_from same_key (x ∷ seen) xs)
        → (AllByRecursion (λ i. waits i.key ≡ false) (distinct_from same_key seen xs) → are_free waits earlier (distinct_from same_key seen xs) ≡ true)
        → (AllByRecursion (λ i. waits i.key ≡ false) (distinct_from same_key (x ∷ seen) xs) → are_free waits (earlier ++ x ∷ []) (distinct_from same_key (x ∷ seen) xs) ≡ true)
        → are_free waits earlier (if b then distinct_from same_key seen xs else x ∷ distinct_from same_key (x ∷ seen) xs) ≡ true
    by_test true is all skipped further = skipped all
    by_test false is all skipped further =
        ap (λ b. not (b || waits x.key) && are_free waits (earlier ++ x ∷ []) (distinct_from same_key (x ∷ seen) xs)) (same x.key ∙ is)
        ∙ ap (λ b. not b && are_free waits (earlier ++ x ∷ []) (distinct_from same_key (x ∷ seen) xs)) all.0
        ∙ further all.1

module _ (places : BTreeMap (List ℕ) Known) where
  -- whether the key waits, by what is kept
  abbrev kept_waits : List ℕ → Bool
  kept_waits key = is_waiting (kept_place places key)

  taken_free : (scope : ScopeRules) (candidates : List Item) → are_free kept_waits [] (taken places scope candidates) ≡ true
  taken_free scope candidates =
      free_distinct kept_waits [] [] (filter (is_taken places scope) candidates) (λ key. refl)
      (all-distinct_from _ same_key [] _ (all-weaker _ _ (λ i h. absent_idle _ (kept_place places i.key) h) _ (filtered (is_taken places scope) candidates)))

  one_free : (item : Item) → are_free kept_waits [] (unless_kept_waiting places item) ≡ true
  one_free item = by_test (kept_waits item.key) refl
    where
      by_test : (b : Bool) → kept_waits item.key ≡ b → are_free kept_waits [] (if b then [] else item ∷ []) ≡ true
      by_test true is = refl
      by_test false is = ap (λ b. not b && true) is

  redirect_free : (item : Item) (next : Option (List ℕ)) → are_free kept_waits [] (redirect_adds places item next) ≡ true
  redirect_free item None = refl
  redirect_free item (Some uri) = one_free (redirected_to item uri)

  came_free : (scope : ScopeRules) (item : Item) (end : End) (links : List Found) → are_free kept_waits [] (came_adds places scope item end links) ≡ true
  came_free scope item end links = by_kind (is_prerequisite item)
    where
      by_kind :
          (b : Bool)
          → are_free kept_waits [] (if b then redirect_adds places item (if nat_abs end.code / 100 == 3 then found_redirect item links else None) else taken places scope (link_items item links)) ≡ true
      by_kind true = redirect_free item (if nat_abs end.code / 100 == 3 then found_redirect item links else None)
      by_kind false = taken_free scope (link_items item links)

  fetched_free : (scope : ScopeRules) (item : Item) (end : End) (links : List Found) (o : Outcome) → are_free kept_waits [] (fetched_adds places scope item end links o) ≡ true
  fetched_free scope item end links Success = came_free scope item end links
  fetched_free scope item end links Failure = refl
  fetched_free scope item end links Disregard = refl
  fetched_free scope item end links Retry = refl

  -- what an end adds is free by what is kept
  kept_free : (scope : ScopeRules) (item : Item) (end : End) (links : List Found) (verdict : Verdict) → are_free kept_waits [] (kept_adds places scope item end links verdict) ≡ true
  kept_free scope item end links Allowed = fetched_free scope item end links end.outcome
  kept_free scope item end links Needed = one_free (robots_of item)
  kept_free scope item end links Precluded = refl
  kept_free scope item end links Unsupported = refl
  kept_free scope item end links Unreachable = refl

  -- and so by the history
  new_by_kept : (h : History) (items : List Item) → KeepsPlaces h places → are_free kept_waits [] items ≡ true → are_new h items ≡ true
  new_by_kept h items keeps free = are_free-same (λ key. is_waiting (place_of h key)) kept_waits (λ key. ap is_waiting (sym (keeps key))) [] items ∙ free

  -- what is taken is new, and so is what an end adds
  pub taken_new :
      (scope : ScopeRules) (candidates items : List Item) (h : History) → items ≡ taken places scope candidates → KeepsPlaces h places → are_new h items ≡ true
  taken_new scope candidates items h is keeps = new_by_kept h items keeps (ap (are_free kept_waits []) is ∙ taken_free scope candidates)

  -- and the key of each is nowhere
  pub taken_absent :
      (scope : ScopeRules) (candidates items : List Item) (h : History) → items ≡ taken places scope candidates → KeepsPlaces h places
      → AllByRecursion (λ i. is_absent (place_of h i.key) ≡ true) items
  taken_absent scope candidates items h is keeps =
      subst (AllByRecursion (λ i. is_absent (place_of h i.key) ≡ true)) (sym is)
      (all-distinct_from _ same_key [] _
      (all-weaker _ _ (λ i test. ap is_absent (sym (keeps i.key)) ∙ last_part _ (is_absent (kept_place places i.key)) test) _ (filtered (is_taken places scope) candidates)))

  pub kept_new :
      (scope : ScopeRules) (item : Item) (end : End) (links : List Found) (verdict : Verdict) (items : List Item) (h : History)
      → items ≡ kept_adds places scope item end links verdict → KeepsPlaces h places → are_new h items ≡ true
  kept_new scope item end links verdict items h is keeps = new_by_kept h items keeps (ap (are_free kept_waits []) is ∙ kept_free scope item end links verdict)
