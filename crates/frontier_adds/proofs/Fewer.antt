-- How many items an end adds: no more than it has links, or one.
use Rattle.std.proofs.Common.{◌≡◌, ℕ, ◌+◌, ◌≤◌, ◌/◌, ◌==◌, Bool, true, false, cond, List, [], ◌∷◌, length, sym, subst, Option, Some, None, arith}
use Rattle.std.specs.Prelude.{filter, nat_abs, if◌then◌else◌}
use Rattle.std.specs.List.{list_any}
use Rattle.std.specs.BTreeMap.{BTreeMap}
use Rattle.std.proofs.lemmas.List.{length-map}
use Rattle.crawl_kinds.specs.declared.event.End.{End}
use Rattle.crawl_kinds.specs.declared.event.Outcome.{Outcome}
use Rattle.crawl_kinds.specs.declared.event.Outcome.TheVariants.{Success, Failure, Disregard, Retry}
use Rattle.crawl_kinds.specs.declared.event.Verdict.{Verdict}
use Rattle.crawl_kinds.specs.declared.event.Verdict.TheVariants.{Allowed, Precluded, Needed, Unsupported, Unreachable}
use Rattle.crawl_kinds.specs.declared.item.Item.{Item}
use Rattle.crawl_history.specs.Adds.{same_key}
use Rattle.crawl_history.specs.Outcomes.{is_prerequisite}
use Rattle.crawl_history.specs.Places.{is_waiting}
use Rattle.crawl_history.specs.Scans.{distinct_from}
use Rattle.scope_spec.specs.Decision.{ScopeRules}
use Rattle.extract_spec.specs.declared.found.Found.{Found}
use Rattle.frontier_memo.specs.declared.known.Known.{Known}
use Rattle.frontier_adds.specs.Candidates.{found_redirect, is_taken, kept_place, link_item, link_items, robots_of, redirected_to, taken}
use Rattle.frontier_adds.specs.KeptAdds.{unless_kept_waiting, redirect_adds, came_adds, fetched_adds, kept_adds}

pub few_filtered : {X : Type 0} (p : X → Bool) (xs : List X) → length (filter p xs) ≤ length xs
few_filtered p [] = omega arith
few_filtered {X} p (x ∷ xs) = by_test (p x) (few_filtered p xs)
  where
    by_test : (b : Bool) → length (filter p xs) ≤ length xs → length (cond b (x ∷ filter p xs) (filter p xs)) ≤ length (x ∷ xs)
    by_test true rest = omega arith
    by_test false rest = omega arith

pub few_distinct : {X : Type 0} (e : X → X → Bool) (seen xs : List X) → length (distinct_from e seen xs) ≤ length xs
few_distinct e seen [] = omega arith
few_distinct {X} e seen (x ∷ xs) = by_test (list_any (e x) seen) (few_distinct e seen xs) (few_distinct e (x ∷ seen) xs)
  where
    by_test :
        (b : Bool) → length (distinct_from e seen xs) ≤ length xs → length (distinct_from e (x ∷ seen) xs) ≤ length xs
        → length (if b then distinct_from e seen xs else x ∷ distinct_from e (x ∷ seen) xs) ≤ length (x ∷ xs)
    by_test true known new = omega arith
    by_test false known new = omega arith

module _ (places : BTreeMap (List ℕ) Known) (scope : ScopeRules) (links : List Found) where
  few_links : (page : Item) → length (taken places scope (link_items page links)) ≤ length links + 1
  few_links page =
      let items : List Item = link_items page links in
      let same : length items ≡ length links = length-map links (link_item page) in
      let few : length (filter (is_taken places scope) items) ≤ length items = few_filtered (is_taken places scope) items in
      let once : length (taken places scope items) ≤ length (filter (is_taken places scope) items) = few_distinct same_key [] (filter (is_taken places scope) items) in
      omega arith

  one_most : (item : Item) → length (unless_kept_waiting places item) ≤ length links + 1
  one_most item = by_test (is_waiting (kept_place places item.key))
    where
      by_test : (b : Bool) → length (if b then [] else item ∷ []) ≤ length links + 1
      by_test true = omega arith
      by_test false = omega arith

  few_redirects : (item : Item) (next : Option (List ℕ)) → length (redirect_adds places item next) ≤ length links + 1
  few_redirects item None = omega arith
  few_redirects item (Some uri) = one_most (redirected_to item uri)

  few_came : (item : Item) (end : End) → length (came_adds places scope item end links) ≤ length links + 1
  few_came item end = by_kind (is_prerequisite item)
    where
      by_kind :
          (b : Bool)
          → length (if b then redirect_adds places item (if nat_abs end.code / 100 == 3 then found_redirect item links else None) else taken places scope (link_items item links)) ≤ length links + 1
      by_kind true = few_redirects item (if nat_abs end.code / 100 == 3 then found_redirect item links else None)
      by_kind false = few_links item

  few_fetched : (item : Item) (end : End) (o : Outcome) → length (fetched_adds places scope item end links o) ≤ length links + 1
  few_fetched item end Success = few_came item end
  few_fetched item end Failure = omega arith
  few_fetched item end Disregard = omega arith
  few_fetched item end Retry = omega arith

  few_kept : (item : Item) (end : End) (verdict : Verdict) → length (kept_adds places scope item end links verdict) ≤ length links + 1
  few_kept item end Allowed = few_fetched item end end.outcome
  few_kept item end Needed = one_most (robots_of item)
  few_kept item end Precluded = omega arith
  few_kept item end Unsupported = omega arith
  few_kept item end Unreachable = omega arith

  -- and so of items that are those
  pub few_adds : (item : Item) (end : End) (verdict : Verdict) (items : List Item) → items ≡ kept_adds places scope item end links verdict → length items ≤ length links + 1
  few_adds item end verdict items is = subst (λ (l : List Item). length l ≤ length links + 1) (sym is) (few_kept item end verdict)
