-- What seeds and ends add, against the history.
use Rattle.std.proofs.Common.{◌≡◌, ℕ, ◌≤◌, ◌/◌, Bool, true, false, ◌==◌, cond, List, [], ◌∷◌, ◌++◌, map, length, refl, sym, ◌∙◌, ap, Option, Some, None, arith, length-append}
use Rattle.std.specs.Prelude.{◌&&◌, All, filter, nat_le, nat_abs, if◌then◌else◌}
use Rattle.std.specs.BTreeMap.{BTreeMap}
use Rattle.std.proofs.lemmas.Bool.Decides.{Decides-eqb, nat_tests}
use Rattle.std.proofs.lemmas.List.Elements.{All-map, All-weaker}
use Rattle.crawl_kinds.specs.Address.{IsUri}
use Rattle.crawl_kinds.specs.declared.event.End.{End}
use Rattle.crawl_kinds.specs.declared.event.Outcome.{Outcome}
use Rattle.crawl_kinds.specs.declared.event.Outcome.TheVariants.{Success, Failure, Disregard, Retry}
use Rattle.crawl_kinds.specs.declared.event.Verdict.{Verdict}
use Rattle.crawl_kinds.specs.declared.event.Verdict.TheVariants.{Allowed, Precluded, Needed, Unsupported, Unreachable}
use Rattle.crawl_kinds.specs.declared.item.Item.{Item}
use Rattle.crawl_kinds.specs.declared.settings.Settings.{Settings}
use Rattle.crawl_kinds.specs.Event.{Finishing}
use Rattle.crawl_history.specs.Adds.{item_of, new_items, page_candidates, same_key, seed_candidates, unless_waiting, next_robots, adds_by_outcome, finish_adds}
use Rattle.crawl_history.specs.Facts.{Archive, Facts}
use Rattle.crawl_history.specs.History.{History}
use Rattle.crawl_history.specs.Outcomes.{is_prerequisite}
use Rattle.crawl_history.specs.Places.{is_absent, is_waiting, place_of}
use Rattle.crawl_history.specs.Robots.{redirect_of, status_class}
use Rattle.crawl_history.specs.Scans.{distinct}
use Rattle.crawl_history.specs.Scope.{is_in_scope, most_letters}
use Rattle.scope_spec.specs.Decision.{ScopeRules}
use Rattle.core_facts.specs.CoreFacts.{Pages, facts_with, is_accepted}
use Rattle.extract_spec.specs.declared.found.Found.{Found}
use Rattle.extract_spec.specs.Joining.{IsLink}
use Rattle.frontier_memo.specs.declared.known.Known.{Known}
use Rattle.frontier_adds.specs.Candidates.{is_taken, taken, kept_place, link_of, link_item, link_items, seed_item, found_redirect, redirected_to, robots_of}
use Rattle.frontier_adds.specs.KeptAdds.{kept_seeds, unless_kept_waiting, redirect_adds, came_adds, fetched_adds, kept_adds}
use Rattle.frontier_adds.specs.Shown.{KeepsPlaces, ShowsLinks}

-- ---- links

filter-none : {X Y : Type 0} (p : Y → Bool) (g : X → Y) → ((x : X) → p (g x) ≡ false) → (xs : List X) → filter p (map g xs) ≡ []
filter-none p g none [] = refl
filter-none p g none (x ∷ xs) = ap (λ b. cond b (g x ∷ filter p (map g xs)) (filter p (map g xs))) (none x) ∙ filter-none p g none xs

-- a page whose path can't grow adds nothing
pub none_longer :
    (places : BTreeMap (List ℕ) Known) (scope : ScopeRules) (page : Item) (links : List Found) → most_letters ≤ length page.path
    → taken places scope (link_items page links) ≡ []
none_longer places scope page links long =
    ap (distinct same_key)
    (filter-none (is_taken places scope) (link_item page)
    (λ l.
    let past : nat_le (length (page.path ++ l.letter ∷ [])) 250 ≡ false = let len = length-append page.path (l.letter ∷ []) in grind (arith, nat_tests) in
    ap (λ b. (b && is_accepted scope (link_item page l).uri (link_item page l).path) && is_absent (kept_place places (link_item page l).key)) past) links)

pub links_are_addresses : (page : Item) (links : List Found) → All IsLink links → All (λ i. IsUri i.uri) (link_items page links)
links_are_addresses page links all =
    All-map (λ i. IsUri i.uri) (link_item page) links (All-weaker IsLink (λ l. IsUri l.uri) (λ l link. link.address) links all)

-- ---- against the history

filter-like : {X : Type 0} (p q : X → Bool) → ((x : X) → p x ≡ q x) → (xs : List X) → filter p xs ≡ filter q xs
filter-like p q same [] = refl
filter-like p q same (x ∷ xs) = ap (λ b. cond b (x ∷ filter p xs) (filter p xs)) (same x) ∙ ap (λ ys. cond (q x) (x ∷ ys) ys) (filter-like p q same xs)

module _ (s : Settings) (scope : ScopeRules) (pages : Pages) (h : History) (places : BTreeMap (List ℕ) Known) (keeps : KeepsPlaces h places) where
  abbrev f : Facts
  f = facts_with s (scope ∷ []) pages

  -- what is taken is what is new, whatever the pages are
  taken-new_items : (xs : List Item) → taken places scope xs ≡ new_items f h xs
  taken-new_items xs =
      ap (distinct same_key)
      (filter-like (is_taken places scope) (λ i. is_in_scope f h i && is_absent (place_of h i.key))
      (λ i. ap (λ p. (nat_le (length i.path) most_letters && is_accepted scope i.uri i.path) && is_absent p) (keeps i.key)) xs)

  -- what seeds add by what is kept is what they add
  pub seeds_same : (list : List (List ℕ)) → kept_seeds places scope list ≡ new_items f h (seed_candidates f list)
  seeds_same list = taken-new_items (map seed_item list)

  unless-same : (item : Item) → unless_kept_waiting places item ≡ unless_waiting h item
  unless-same item = ap (λ p. if is_waiting p then [] else item ∷ []) (keeps item.key)

  module _ (a : Archive) (c : Finishing) (links : List Found) (shown : ShowsLinks f a c links) where
    link_candidates : (ls : List Found) → link_items c.item ls ≡ map (λ l. item_of f l.uri (c.item.path ++ l.letter ∷ []) (Some c.item.uri)) (map link_of ls)
    link_candidates [] = refl
    link_candidates (l ∷ ls) = ap (λ is. link_item c.item l ∷ is) (link_candidates ls)

    page_same : c.end.outcome ≡ Success → is_prerequisite c.item ≡ false → taken places scope (link_items c.item links) ≡ new_items f h (page_candidates f a c)
    page_same came page =
        taken-new_items (link_items c.item links)
        ∙ ap (new_items f h) (link_candidates links ∙ ap (map (λ l. item_of f l.uri (c.item.path ++ l.letter ∷ []) (Some c.item.uri))) (shown.page came page))

    next_same : (next : Option (List ℕ)) → redirect_adds places c.item next ≡ next_robots f h c next
    next_same None = refl
    next_same (Some uri) = unless-same (redirected_to c.item uri)

    robots_same :
        c.end.outcome ≡ Success → is_prerequisite c.item ≡ true → (b : Bool) → (status_class c == 3) ≡ b
        → redirect_adds places c.item (if b then found_redirect c.item links else None) ≡ next_robots f h c (if b then redirect_of f a c else None)
    robots_same came robots false is = refl
    robots_same came robots true is =
        ap (redirect_adds places c.item) (shown.robots came robots ((Decides-eqb (status_class c) 3).0 is)) ∙ next_same (redirect_of f a c)

    came_same : c.end.outcome ≡ Success → came_adds places scope c.item c.end links ≡ adds_by_outcome f a h c Success
    came_same came = by_kind (is_prerequisite c.item) refl
      where
        by_kind :
            (b : Bool) → is_prerequisite c.item ≡ b
            → (if b then redirect_adds places c.item (if nat_abs c.end.code / 100 == 3 then found_redirect c.item links else None) else taken places scope (link_items c.item links))
            ≡ (if b then next_robots f h c (if status_class c == 3 then redirect_of f a c else None) else new_items f h (page_candidates f a c))
        by_kind true robots = robots_same came robots (status_class c == 3) refl
        by_kind false page = page_same came page

    fetched_same : (o : Outcome) → c.end.outcome ≡ o → fetched_adds places scope c.item c.end links o ≡ adds_by_outcome f a h c o
    fetched_same Success is = came_same is
    fetched_same Failure is = refl
    fetched_same Disregard is = refl
    fetched_same Retry is = refl

    -- what an end adds by what is kept is what it adds
    adds_by_kept : (verdict : Verdict) → kept_adds places scope c.item c.end links verdict ≡ finish_adds f a h c verdict
    adds_by_kept Allowed = fetched_same c.end.outcome refl
    adds_by_kept Needed = unless-same (robots_of c.item)
    adds_by_kept Precluded = refl
    adds_by_kept Unsupported = refl
    adds_by_kept Unreachable = refl

    -- and so of an item and an end that are those of the finish
    pub adds_same :
        (item : Item) (end : End) (verdict : Verdict) → c.item ≡ item → c.end ≡ end
        → kept_adds places scope item end links verdict ≡ finish_adds f a h c verdict
    adds_same item end verdict same ends =
        ap (λ (i : Item). kept_adds places scope i end links verdict) (sym same)
        ∙ ap (λ (e : End). kept_adds places scope c.item e links verdict) (sym ends)
        ∙ adds_by_kept verdict
