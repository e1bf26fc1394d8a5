-- Items in the journal: key, class and rank follow from the address and the path.
--     key_of uri path, rank_of key path      the key and the rank of an item
--     IsItem, IsAdd      an item of a line, and one of a line that adds it
use Rattle.std.specs.Prelude.{◌≡◌, ℕ, ◌≤◌, ◌==◌, nat_eq, List, [], ◌∷◌, codes, count_by, Option, Some, None, IfSome, IsTrue, option_map, if◌then◌else◌}
use Rattle.std.specs.List.{starts_with, ends_with}
use Rattle.std.specs.Option.{option_or}
use Rattle.crawl_kinds.specs.declared.item.Item.{Item}
use Rattle.crawl_kinds.specs.Address.{IsUri}
use Rattle.crawl_kinds.specs.Text.{is_text, is_visible, is_hop}
use Rattle.uri_spec.specs.Key.{key_text, robots_key}
use Rattle.uri_spec.specs.Surt.{class_text}

-- P: a prerequisite
abbrev pub prerequisite_letter : ℕ
prerequisite_letter = 80

-- R: a redirect
abbrev pub redirect_letter : ℕ
redirect_letter = 82

-- the letters after the last P of a path, where it has one
abbrev pub after_prerequisite : List ℕ → Option (List ℕ)
after_prerequisite [] = None
after_prerequisite (letter ∷ letters) =
    option_or (after_prerequisite letters) (if letter == prerequisite_letter then Some letters else None)

-- how often a robots file was redirected on a path, where the path leads to one
abbrev pub robots_redirects : List ℕ → Option ℕ
robots_redirects path = option_map (count_by (λ letter. letter == redirect_letter)) (after_prerequisite path)

-- the key of a robots file after so many redirects, or else the canonical key
abbrev pub key_by : Option ℕ → List ℕ → List ℕ
key_by None uri = key_text uri
key_by (Some redirects) uri = robots_key redirects (class_text uri)

-- the key of an address that was found on this path
abbrev pub key_of : List ℕ → List ℕ → List ℕ
key_of uri path = key_by (robots_redirects path) uri

-- 0 for a robots file, 1 after a redirect, 2 for an embed, 3 for all else
abbrev pub rank_of : List ℕ → List ℕ → ℕ
rank_of key path =
    if starts_with nat_eq key (codes "robots") then 0
    else (if ends_with nat_eq path (codes "R") then 1
    else (if ends_with nat_eq path (codes "E") then 2 else 3))

-- an address, of as many visible bytes as one may have
pub record IsAddress (text : List ℕ) : Type 0 where
  pub serialised : IsUri text
  pub visible : IsTrue (is_text is_visible 2083 text)

-- an item that a line can name, all of whose fields its address, path and via determine
pub record IsItem (item : Item) : Type 0 where
  pub uri : IsAddress item.uri
  pub path : IsTrue (is_text is_hop 250 item.path)
  pub via : IfSome item.via IsAddress
  pub key : item.key ≡ key_of item.uri item.path
  pub key_fits : IsTrue (is_text is_visible 2200 item.key)
  pub class : item.class ≡ class_text item.uri
  pub rank : item.rank ≡ rank_of item.key item.path

-- an item that is added: a robots file is redirected at most five times
pub record IsAdd (item : Item) : Type 0 where
  pub named : IsItem item
  pub redirects : IfSome (robots_redirects item.path) (λ j. j ≤ 5)
