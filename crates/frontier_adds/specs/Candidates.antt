-- Candidates, by what is kept of keys.
--     taken places scope candidates      those that the scope takes and whose key is nowhere, each key once
--     link_items page links      the candidates of a page
--     found_redirect item links      the address that a robots file redirects to, by its links
use Rattle.std.specs.Prelude.{ℕ, Bool, ◌&&◌, ◌==◌, nat_le, nat_lt, List, [], ◌∷◌, ◌++◌, map, filter, find, length, bytes_eq, Option, Some, None, if◌then◌else◌}
use Rattle.std.specs.BTreeMap.{BTreeMap}
use Rattle.crawl_kinds.specs.declared.event.Place.{Place}
use Rattle.crawl_kinds.specs.declared.item.Item.{Item}
use Rattle.crawl_history.specs.Adds.{robots_path, redirect_path, same_key}
use Rattle.crawl_history.specs.Codes.{redirect_letter}
use Rattle.crawl_history.specs.Facts.{Link}
use Rattle.crawl_history.specs.Places.{is_absent}
use Rattle.crawl_history.specs.Robots.{redirect_count, most_redirects}
use Rattle.crawl_history.specs.Scans.{distinct}
use Rattle.crawl_history.specs.Scope.{most_letters}
use Rattle.scope_spec.specs.Decision.{ScopeRules}
use Rattle.uri_spec.specs.Surt.{class_text, robots_text}
use Rattle.core_facts.specs.CoreFacts.{is_accepted}
use Rattle.extract_spec.specs.declared.found.Found.{Found}
use Rattle.item_form.specs.Items.{item_on}
use Rattle.frontier_memo.specs.declared.known.Known.{Known}
use Rattle.frontier_memo.specs.Keeping.{known_at, place_by}

-- where the key is, by what is kept
abbrev pub kept_place : BTreeMap (List ℕ) Known → List ℕ → Place
kept_place places key = place_by (known_at places key)

-- the scope takes the item, and its key is nowhere
abbrev pub is_taken : BTreeMap (List ℕ) Known → ScopeRules → Item → Bool
is_taken places scope item =
    (nat_le (length item.path) most_letters && is_accepted scope item.uri item.path) && is_absent (kept_place places item.key)

-- those of these candidates, each key once
abbrev pub taken : BTreeMap (List ℕ) Known → ScopeRules → List Item → List Item
taken places scope candidates = distinct same_key (filter (is_taken places scope) candidates)

-- the item of a seed
abbrev pub seed_item : List ℕ → Item
seed_item uri = item_on uri [] None

-- a link, as a history has it
abbrev pub link_of : Found → Link
link_of found = record { letter = found.letter; uri = found.uri }

-- the item of a link of a page: the page's path and the letter of the link
abbrev pub link_item : Item → Found → Item
link_item page found = item_on found.uri (page.path ++ found.letter ∷ []) (Some page.uri)

-- those of its links
abbrev pub link_items : Item → List Found → List Item
link_items page links = map (link_item page) links

-- the robots file of the item
abbrev pub robots_of : Item → Item
robots_of item = item_on (robots_text item.uri) (robots_path item.path) (Some item.uri)

-- what the robots file redirects to
abbrev pub redirected_to : Item → List ℕ → Item
redirected_to item uri = item_on uri (redirect_path item.path) (Some item.uri)

-- the address of the link, where it stays in the class
abbrev pub found_in : List ℕ → Option Found → Option (List ℕ)
found_in class None = None
found_in class (Some found) = if bytes_eq (class_text found.uri) class then Some found.uri else None

-- the first redirect, where redirects are left and it stays in the class
abbrev pub found_redirect : Item → List Found → Option (List ℕ)
found_redirect item links =
    if nat_lt (redirect_count item) most_redirects
    then found_in item.class (find (λ l. l.letter == redirect_letter) links)
    else None
