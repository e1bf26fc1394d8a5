-- What the end of an item adds, by what is kept of keys.
--     kept_seeds places scope list      all that seeds add
--     kept_adds places scope item end links verdict      all that it adds, by the verdict of its emit
use Rattle.std.specs.Prelude.{ℕ, ◌/◌, ◌==◌, List, [], ◌∷◌, map, Option, Some, None, nat_abs, if◌then◌else◌}
use Rattle.std.specs.BTreeMap.{BTreeMap}
use Rattle.crawl_kinds.specs.declared.event.End.{End}
use Rattle.crawl_kinds.specs.declared.event.Outcome.{Outcome}
use Rattle.crawl_kinds.specs.declared.event.Outcome.TheVariants.{Success, Failure, Disregard, Retry}
use Rattle.crawl_kinds.specs.declared.event.Verdict.{Verdict}
use Rattle.crawl_kinds.specs.declared.event.Verdict.TheVariants.{Allowed, Precluded, Needed, Unsupported, Unreachable}
use Rattle.crawl_kinds.specs.declared.item.Item.{Item}
use Rattle.crawl_history.specs.Outcomes.{is_prerequisite}
use Rattle.crawl_history.specs.Places.{is_waiting}
use Rattle.scope_spec.specs.Decision.{ScopeRules}
use Rattle.extract_spec.specs.declared.found.Found.{Found}
use Rattle.frontier_memo.specs.declared.known.Known.{Known}
use Rattle.frontier_adds.specs.Candidates.{found_redirect, kept_place, link_items, redirected_to, robots_of, seed_item, taken}

-- what seeds add
abbrev pub kept_seeds : BTreeMap (List ℕ) Known → ScopeRules → List (List ℕ) → List Item
kept_seeds places scope list = taken places scope (map seed_item list)

-- the item, unless its key waits
abbrev pub unless_kept_waiting : BTreeMap (List ℕ) Known → Item → List Item
unless_kept_waiting places item = if is_waiting (kept_place places item.key) then [] else item ∷ []

-- what a robots file adds, by its redirect
abbrev pub redirect_adds : BTreeMap (List ℕ) Known → Item → Option (List ℕ) → List Item
redirect_adds places item None = []
redirect_adds places item (Some uri) = unless_kept_waiting places (redirected_to item uri)

-- what an item that came adds
abbrev pub came_adds : BTreeMap (List ℕ) Known → ScopeRules → Item → End → List Found → List Item
came_adds places scope item end links =
    if is_prerequisite item
    then redirect_adds places item (if nat_abs end.code / 100 == 3 then found_redirect item links else None)
    else taken places scope (link_items item links)

-- what a fetch adds
abbrev pub fetched_adds : BTreeMap (List ℕ) Known → ScopeRules → Item → End → List Found → Outcome → List Item
fetched_adds places scope item end links Success = came_adds places scope item end links
fetched_adds places scope item end links Failure = []
fetched_adds places scope item end links Disregard = []
fetched_adds places scope item end links Retry = []

-- what an end adds
abbrev pub kept_adds : BTreeMap (List ℕ) Known → ScopeRules → Item → End → List Found → Verdict → List Item
kept_adds places scope item end links Allowed = fetched_adds places scope item end links end.outcome
kept_adds places scope item end links Needed = unless_kept_waiting places (robots_of item)
kept_adds places scope item end links Precluded = []
kept_adds places scope item end links Unsupported = []
kept_adds places scope item end links Unreachable = []
