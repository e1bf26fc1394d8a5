-- Words of the joining, and what is known of links.
use Rattle.std.specs.Prelude.{ℕ, List, Option, option_and_then, unwrap_or, IsTrue}
use Rattle.crawl_kinds.specs.Address.{IsUri}
use Rattle.extract_spec.specs.declared.found.Found.{Found}
use Rattle.extract_spec.specs.Joining.{cleaned, is_link_letter, joined}

-- the base that a page's `base` makes, if it has one
abbrev pub base_by : List ℕ → Option (List ℕ) → List ℕ
base_by uri href = unwrap_or (option_and_then (λ text. joined uri (cleaned text)) href) uri

-- the link leads to an address, and has the letter of a link
abbrev pub HasAddress : Found → Type 0
HasAddress found = IsUri found.uri

abbrev pub HasLetter : Found → Type 0
HasLetter found = IsTrue (is_link_letter found.letter)
