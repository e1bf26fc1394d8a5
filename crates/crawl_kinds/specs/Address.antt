-- Addresses: what the parser of the URL Standard (section 4.4) reads as http or https, in the form in which it is
-- written (section 4.5), with no fragment.
use Rattle.std.specs.Prelude.{◌≡◌, ℕ, ◌≤◌, Bool, ◌||◌, List, length, codes, bytes_eq, None, IsTrue, Ok}
use Rattle.url.specs.declared.slicing.Position.TheVariants.{BeforePath}
use Rattle.url.specs.Parts.{Parts, serialize, offset, IsValid}
use Rattle.url.specs.Parser.{parse_url}

-- an address has at most so many bytes
abbrev pub most_uri : ℕ
most_uri = 2083

-- and at most so many before its path, so that `/robots.txt` fits behind them
abbrev pub most_head : ℕ
most_head = 2072

-- the scheme is http or https
abbrev pub is_web : Parts → Bool
is_web url = bytes_eq url.scheme (codes "http") || bytes_eq url.scheme (codes "https")

-- the URL without its fragment
abbrev pub without_fragment : Parts → Parts
without_fragment url = record url { fragment = None }

-- the text parses to this URL, a valid one of the web without fragment, is what this URL is written as, and is short
-- enough
pub record IsUriOf (text : List ℕ) (url : Parts) : Type 0 where
  pub parsed : parse_url None text ≡ Ok url
  pub valid : IsValid url
  pub web : IsTrue (is_web url)
  pub fragment : url.fragment ≡ None
  pub written : serialize url ≡ text
  pub within : length text ≤ most_uri
  pub head : offset url BeforePath ≤ most_head

-- the text is an address
pub record IsUri (text : List ℕ) : Type 0 where
  pub url : Parts
  pub reads : IsUriOf text url
