-- The item of an address, a path and a via.
use Rattle.std.specs.Prelude.{◌≡◌, ℕ, ◌+◌, ◌==◌, List, Option, Some, None, option_map, if◌then◌else◌}
use Rattle.crawl_kinds.specs.declared.item.Item.{Item}
use Rattle.uri_spec.specs.Key.{robots_key}
use Rattle.journal_valid.specs.Items.{IsItem, prerequisite_letter, redirect_letter}

-- a valid item with these
pub record IsItemOf (uri path : List ℕ) (via : Option (List ℕ)) (item : Item) : Type 0 where
  pub valid : IsItem item
  pub of_uri : item.uri ≡ uri
  pub of_path : item.path ≡ path
  pub of_via : item.via ≡ via

-- how often a robots file was redirected, with one letter more
abbrev pub redirects_after : ℕ → Option ℕ → Option ℕ
redirects_after letter before =
    if letter == prerequisite_letter then Some 0
    else (if letter == redirect_letter then option_map (λ j. j + 1) before else before)

-- the key of a robots file after so many redirects, or else the canonical key
abbrev pub key_from : Option ℕ → List ℕ → List ℕ → List ℕ
key_from None key class = key
key_from (Some redirects) key class = robots_key redirects class
