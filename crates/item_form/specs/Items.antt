-- Items of addresses.
--     item_on uri path via      the item of an address that was found on this path, on the page via
use Rattle.std.specs.Prelude.{ℕ, ◌+◌, ◌==◌, List, Option, Some, None, option_map, if◌then◌else◌}
use Rattle.crawl_kinds.specs.declared.item.Item.{Item}
use Rattle.crawl_history.specs.Adds.{rank_of}
use Rattle.crawl_history.specs.Codes.{prerequisite_letter, redirect_letter}
use Rattle.journal_valid.specs.Items.{key_of}
use Rattle.uri_spec.specs.Key.{robots_key}
use Rattle.uri_spec.specs.Surt.{class_text}

-- key and class follow from address and path, and the rank from key and path
abbrev pub item_on : List ℕ → List ℕ → Option (List ℕ) → Item
item_on uri path via =
    record {
      key = key_of uri path;
      uri = uri;
      class = class_text uri;
      path = path;
      via = via;
      rank = rank_of (key_of uri path) path;
    }

-- how often a robots file was redirected, with one letter more
abbrev pub redirects_after : ℕ → Option ℕ → Option ℕ
redirects_after letter before =
    if letter == prerequisite_letter then Some 0
    else (if letter == redirect_letter then option_map (λ j. j + 1) before else before)

-- the key of a robots file after so many redirects, or else the canonical key
abbrev pub key_from : Option ℕ → List ℕ → List ℕ → List ℕ
key_from None key class = key
key_from (Some redirects) key class = robots_key redirects class
