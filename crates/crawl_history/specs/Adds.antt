-- Which items an event adds.
--     seed_candidates f uris, page_candidates f a c      what seeds and a page bring, as items
--     new_items f h candidates      those in scope whose key is nowhere, each key once
--     finish_adds f a h c verdict      all that a finish adds
use Rattle.std.specs.Prelude.{ℕ, ◌-◌, Bool, ◌&&◌, ◌==◌, List, [], ◌∷◌, ◌++◌, map, filter, Option, Some, None, length, drop, if◌then◌else◌}
use Rattle.std.specs.List.{list_any}
use Rattle.crawl_kinds.specs.declared.event.Outcome.{Outcome}
use Rattle.crawl_kinds.specs.declared.event.Outcome.TheVariants.{Success, Failure, Disregard, Retry}
use Rattle.crawl_kinds.specs.declared.event.Verdict.{Verdict}
use Rattle.crawl_kinds.specs.declared.event.Verdict.TheVariants.{Allowed, Precluded, Needed, Unsupported, Unreachable}
use Rattle.crawl_kinds.specs.declared.item.Item.{Item}
use Rattle.crawl_kinds.specs.Event.{Finishing}
use Rattle.crawl_history.specs.Scans.{distinct, last_of}
use Rattle.crawl_history.specs.Codes.{redirect_letter, embed_letter, prerequisite_letter}
use Rattle.crawl_history.specs.History.{History}
use Rattle.crawl_history.specs.Places.{place_of, is_absent, is_waiting, has_key}
use Rattle.crawl_history.specs.Outcomes.{is_prerequisite, begins_with_robots}
use Rattle.crawl_history.specs.Scope.{is_in_scope, most_letters}
use Rattle.crawl_history.specs.Facts.{Facts, Archive}
use Rattle.crawl_history.specs.Robots.{page_links, redirect_of, status_class}

-- 1 after a redirect, 2 for an embed, 3 for all else
abbrev pub rank_by_letter : Option ℕ → ℕ
rank_by_letter None = 3
rank_by_letter (Some letter) = if letter == redirect_letter then 1 else if letter == embed_letter then 2 else 3

-- 0 for a robots file, else by the last letter of the path
abbrev pub rank_of : List ℕ → List ℕ → ℕ
rank_of key path =
    if begins_with_robots key
    then 0
    else rank_by_letter (last_of (λ letter. Some letter) path)

-- the item of an address that was found on this path, on the page via
abbrev pub item_of : Facts → List ℕ → List ℕ → Option (List ℕ) → Item
item_of f uri path via =
    let key = f.key_of uri path in
    record { key = key; uri = uri; class = f.class_of uri; path = path; via = via; rank = rank_of key path }

-- the seeds, each with an empty path
abbrev pub seed_candidates : Facts → List (List ℕ) → List Item
seed_candidates f uris = map (λ uri. item_of f uri [] None) uris

-- the links of a page, each with the page's path and its own letter
abbrev pub page_candidates : Facts → Archive → Finishing → List Item
page_candidates f a c = map (λ l. item_of f l.uri (c.item.path ++ l.letter ∷ []) (Some c.item.uri)) (page_links f a c)

-- whether two items have one key
abbrev pub same_key : Item → Item → Bool
same_key x y = has_key x.key y

-- the candidates in scope whose key is nowhere, in order, each key once
abbrev pub new_items : Facts → History → List Item → List Item
new_items f h candidates = distinct same_key (filter (λ i. is_in_scope f h i && is_absent (place_of h i.key)) candidates)

-- the last letters of a path, as many as a path may have
abbrev pub last_letters : List ℕ → List ℕ
last_letters path = drop (length path - most_letters) path

-- the path to a robots file
abbrev pub robots_path : List ℕ → List ℕ
robots_path path = last_letters (path ++ prerequisite_letter ∷ [])

-- the path of a robots file and one more redirect
abbrev pub redirect_path : List ℕ → List ℕ
redirect_path path =
    last_letters
    ((if list_any (λ b. b == prerequisite_letter) path then path else path ++ prerequisite_letter ∷ []) ++ redirect_letter ∷ [])

-- an item that is added without asking the scope; it may be done, and is left out where it waits
abbrev pub unless_waiting : History → Item → List Item
unless_waiting h item = if is_waiting (place_of h item.key) then [] else item ∷ []

-- what a robots file redirects to
abbrev pub next_robots : Facts → History → Finishing → Option (List ℕ) → List Item
next_robots f h c None = []
next_robots f h c (Some uri) = unless_waiting h (item_of f uri (redirect_path c.item.path) (Some c.item.uri))

-- a page that came adds its new links, a robots file its redirect
abbrev pub adds_by_outcome : Facts → Archive → History → Finishing → Outcome → List Item
adds_by_outcome f a h c Success =
    if is_prerequisite c.item
    then next_robots f h c (if status_class c == 3 then redirect_of f a c else None)
    else new_items f h (page_candidates f a c)
adds_by_outcome f a h c Failure = []
adds_by_outcome f a h c Disregard = []
adds_by_outcome f a h c Retry = []

-- the robots file of the item
abbrev pub robots_item : Facts → Finishing → Item
robots_item f c = item_of f (f.robots_uri c.item.uri) (robots_path c.item.path) (Some c.item.uri)

-- what a finish adds, by the verdict of its emit
abbrev pub finish_adds : Facts → Archive → History → Finishing → Verdict → List Item
finish_adds f a h c Allowed = adds_by_outcome f a h c c.end.outcome
finish_adds f a h c Needed = unless_waiting h (robots_item f c)
finish_adds f a h c Precluded = []
finish_adds f a h c Unsupported = []
finish_adds f a h c Unreachable = []
