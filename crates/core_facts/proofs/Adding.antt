-- All that seeds and finishes add is valid.
use Rattle.std.proofs.Common.{◌≡◌, ℕ, suc, ◌≤◌, Bool, true, false, ◌&&◌, cond, ◌==◌, List, [], ◌∷◌, ◌++◌, map, length, refl, arith, Option, Some, None, Contains}
use Rattle.std.specs.Prelude.{IsTrue, filter, nat_le, if◌then◌else◌}
use Rattle.std.specs.List.{list_any, AllByRecursion}
use Rattle.std.proofs.lemmas.Bool.{and_parts, leb-true}
use Rattle.crawl_kinds.specs.Address.{IsUri}
use Rattle.crawl_kinds.specs.Text.{is_hop}
use Rattle.crawl_kinds.specs.Event.{Finishing}
use Rattle.crawl_kinds.specs.declared.event.Outcome.{Outcome}
use Rattle.crawl_kinds.specs.declared.event.Outcome.TheVariants.{Success, Failure, Disregard, Retry}
use Rattle.crawl_kinds.specs.declared.event.Verdict.{Verdict}
use Rattle.crawl_kinds.specs.declared.event.Verdict.TheVariants.{Allowed, Precluded, Needed, Unsupported, Unreachable}
use Rattle.crawl_kinds.specs.declared.item.Item.{Item}
use Rattle.crawl_kinds.specs.declared.settings.Settings.{Settings}
use Rattle.crawl_history.specs.Adds.{item_of, seed_candidates, page_candidates, same_key, new_items, unless_waiting, next_robots, adds_by_outcome, finish_adds}
use Rattle.crawl_history.specs.Facts.{Facts, Archive}
use Rattle.crawl_history.specs.History.{History}
use Rattle.crawl_history.specs.Outcomes.{is_prerequisite}
use Rattle.crawl_history.specs.Places.{place_of, is_absent, is_waiting}
use Rattle.crawl_history.specs.Robots.{page_links, redirect_of, status_class}
use Rattle.crawl_history.specs.Scans.{distinct_from}
use Rattle.crawl_history.specs.Scope.{is_in_scope, most_letters}
use Rattle.scope_spec.specs.Decision.{ScopeRules}
use Rattle.journal_valid.specs.Items.{IsAdd}
use Rattle.core_facts.specs.CoreFacts.{Pages, facts_with}
use Rattle.core_facts.specs.ValidEvent.{is_item, is_add}
use Rattle.core_facts.specs.Validity.{LeadsOn, MakesValid}
use Rattle.core_facts.proofs.Making.{item_made, seed_made, link_made, robots_made, redirect_made}

-- ---- lists

all-distinct : {X : Type 0} (P : X → Type 0) (e : X → X → Bool) (seen xs : List X) → AllByRecursion P xs → AllByRecursion P (distinct_from e seen xs)
all-distinct P e seen [] all = tt
all-distinct {X} P e seen (x ∷ xs) all = by_test (list_any (e x) seen) (all-distinct P e seen xs all.1) (all-distinct P e (x ∷ seen) xs all.1)
  where
    by_test :
        (b : Bool) → AllByRecursion P (distinct_from e seen xs) → AllByRecursion P (distinct_from e (x ∷ seen) xs)
        → AllByRecursion P (if b then distinct_from e seen xs else x ∷ distinct_from e (x ∷ seen) xs)
    by_test true known new = known
    by_test false known new = (all.0, new)

all-filter : {X : Type 0} (P : X → Type 0) (p : X → Bool) (xs : List X) → AllByRecursion (λ x. p x ≡ true → P x) xs → AllByRecursion P (filter p xs)
all-filter P p [] all = tt
all-filter {X} P p (x ∷ xs) all = by_test (p x) refl (all-filter P p xs all.1)
  where
    by_test : (b : Bool) → p x ≡ b → AllByRecursion P (filter p xs) → AllByRecursion P (cond b (x ∷ filter p xs) (filter p xs))
    by_test true is rest = (all.0 is, rest)
    by_test false is rest = rest

all-map : {X Y : Type 0} (P : X → Type 0) (Q : Y → Type 0) (g : X → Y) → ((x : X) → P x → Q (g x)) → (xs : List X) → AllByRecursion P xs → AllByRecursion Q (map g xs)
all-map P Q g each [] all = tt
all-map P Q g each (x ∷ xs) all = (each x all.0, all-map P Q g each xs all.1)

there : {X : Type 0} (y : X) (ys : List X) (x : X) → Contains ys x → Contains (y ∷ ys) x
there y ys x (k, lt, is) = (suc k, omega arith, is)

all-members : {X : Type 0} (P : X → Type 0) (xs : List X) → ((x : X) → Contains xs x → P x) → AllByRecursion P xs
all-members P [] each = tt
all-members P (x ∷ xs) each = (each x (0, omega arith, refl), all-members P xs (λ y c. each y (there x xs y c)))

-- ---- what is added

module _ (settings : Settings) (scopes : List ScopeRules) (pages : Pages) where
  abbrev facts : Facts
  facts = facts_with settings scopes pages

  -- what is taken of candidates has no path that is too long
  new_valid : (h : History) (candidates : List Item) → AllByRecursion (λ i. length i.path ≤ most_letters → IsAdd i) candidates → AllByRecursion IsAdd (new_items facts h candidates)
  new_valid h candidates all =
      all-distinct IsAdd same_key [] (filter (λ i. is_in_scope facts h i && is_absent (place_of h i.key)) candidates)
      (all-filter IsAdd (λ i. is_in_scope facts h i && is_absent (place_of h i.key)) candidates (each candidates all))
    where
      each :
          (items : List Item) → AllByRecursion (λ i. length i.path ≤ most_letters → IsAdd i) items
          → AllByRecursion (λ i. (is_in_scope facts h i && is_absent (place_of h i.key)) ≡ true → IsAdd i) items
      each [] all = tt
      each (i ∷ items) all = (
        λ taken. all.0 (leb-true (length i.path) most_letters (and_parts (nat_le (length i.path) most_letters) _ (and_parts (is_in_scope facts h i) _ taken).0).0),
        each items all.1,
      )

  pub seeds_valid : (h : History) (uris : List (List ℕ)) → AllByRecursion IsUri uris → AllByRecursion IsAdd (new_items facts h (seed_candidates facts uris))
  seeds_valid h uris all =
      new_valid h (seed_candidates facts uris)
      (all-map IsUri (λ i. length i.path ≤ most_letters → IsAdd i) (λ uri. item_of facts uri [] None) (λ uri is short. seed_made settings scopes pages uri is) uris all)

  unless-valid : (h : History) (item : Item) → IsAdd item → AllByRecursion IsAdd (unless_waiting h item)
  unless-valid h item is = by_place (is_waiting (place_of h item.key))
    where
      by_place : (b : Bool) → AllByRecursion IsAdd (if b then [] else item ∷ [])
      by_place true = tt
      by_place false = (is, tt)

  module _ (a : Archive) (h : History) (c : Finishing) (tested : IsTrue (is_add c.item)) (named : IsUri c.item.uri) (leads : LeadsOn facts a c) where
    item-tested : is_item c.item ≡ true
    item-tested = (and_parts (is_item c.item) _ tested).0

    page-valid : c.end.outcome ≡ Success → is_prerequisite c.item ≡ false → AllByRecursion IsAdd (new_items facts h (page_candidates facts a c))
    page-valid came other =
        new_valid h (page_candidates facts a c)
        (all-map (λ l. IsUri l.uri × IsTrue (is_hop l.letter)) (λ i. length i.path ≤ most_letters → IsAdd i)
        (λ l. item_of facts l.uri (c.item.path ++ l.letter ∷ []) (Some c.item.uri))
        (λ l is short. link_made settings scopes pages c.item l.letter l.uri item-tested named other is.0 is.1 short) (page_links facts a c)
        (all-members (λ l. IsUri l.uri × IsTrue (is_hop l.letter)) (page_links facts a c) (leads.links came other)))

    robots-valid : (o : Option (List ℕ)) → redirect_of facts a c ≡ o → ((uri : List ℕ) → redirect_of facts a c ≡ Some uri → IsUri uri) → AllByRecursion IsAdd (next_robots facts h c o)
    robots-valid None follows named_next = tt
    robots-valid (Some uri) follows named_next = unless-valid h _ (redirect_made settings scopes pages a c uri tested named follows (named_next uri follows))

    success-valid : c.end.outcome ≡ Success → AllByRecursion IsAdd (adds_by_outcome facts a h c Success)
    success-valid came = by_kind (is_prerequisite c.item) refl
      where
        three : (n : ℕ) → (n == 3) ≡ true → n ≡ 3
        three n e = grind arith

        by_status :
            (b : Bool) → (status_class c == 3) ≡ b → is_prerequisite c.item ≡ true
            → AllByRecursion IsAdd (next_robots facts h c (if b then redirect_of facts a c else None))
        by_status true status is = robots-valid (redirect_of facts a c) refl (leads.redirect came is (three (status_class c) status))
        by_status false status is = tt

        by_kind :
            (b : Bool) → is_prerequisite c.item ≡ b
            → AllByRecursion IsAdd (if b then next_robots facts h c (if status_class c == 3 then redirect_of facts a c else None) else new_items facts h (page_candidates facts a c))
        by_kind true is = by_status (status_class c == 3) refl is
        by_kind false is = page-valid came is

    outcome-valid : (outcome : Outcome) → c.end.outcome ≡ outcome → AllByRecursion IsAdd (adds_by_outcome facts a h c outcome)
    outcome-valid Success came = success-valid came
    outcome-valid Failure came = tt
    outcome-valid Disregard came = tt
    outcome-valid Retry came = tt

  pub finish_valid :
      (a : Archive) (h : History) (c : Finishing) (verdict : Verdict) → IsTrue (is_add c.item) → IsUri c.item.uri → LeadsOn facts a c
      → AllByRecursion IsAdd (finish_adds facts a h c verdict)
  finish_valid a h c Allowed tested named leads = outcome-valid a h c tested named leads c.end.outcome refl
  finish_valid a h c Needed tested named leads = unless-valid h _ (robots_made settings scopes pages c (and_parts (is_item c.item) _ tested).0 named)
  finish_valid a h c Precluded tested named leads = tt
  finish_valid a h c Unsupported tested named leads = tt
  finish_valid a h c Unreachable tested named leads = tt

  pub made : MakesValid facts
  made =
      record {
        item = item_made settings scopes pages;
        seed = seed_made settings scopes pages;
        link = link_made settings scopes pages;
        robots = robots_made settings scopes pages;
        redirect = redirect_made settings scopes pages;
        seeds = seeds_valid;
        finish = finish_valid;
      }
