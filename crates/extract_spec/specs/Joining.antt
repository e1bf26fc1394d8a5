-- How references become links.
--     joined base text      the address of a text against a base
--     linked base ref      the link that a reference makes
--     base_of uri source payload      what the references of a response are joined to
use Rattle.std.specs.Prelude.{ℕ, Bool, ◌||◌, ◌==◌, if◌then◌else◌, List, Option, None, option_and_then, option_map, unwrap_or, IsTrue}
use Rattle.std.specs.Result.{result_ok}
use Rattle.std.specs.Str.Lossy.{utf8_lossy}
use Rattle.crawl_kinds.specs.Address.{IsUri}
use Rattle.url.specs.Input.{trim_start, trim_end}
use Rattle.uri_form.specs.Fault.{address_in, joined_url}
use Rattle.link_spec.specs.Words.{is_blank}
use Rattle.link_spec.specs.Elements.{html_base}
use Rattle.link_spec.specs.declared.reference.Ref.{Ref}
use Rattle.extract_spec.specs.declared.found.Found.{Found}
use Rattle.extract_spec.specs.declared.source.Source.{Source}
use Rattle.extract_spec.specs.declared.source.Source.TheVariants.{Page, StyleSheet, Script, Nothing}
use Rattle.extract_spec.specs.Source.{has_bytes}

-- read as UTF-8, ill-formed parts as U+FFFD, without ASCII whitespace at either end
abbrev pub cleaned : List ℕ → List ℕ
cleaned text = trim_end is_blank (trim_start is_blank (utf8_lossy text))

-- the address, unless the text is refused or has another scheme (URL Standard section 4.4)
abbrev pub joined : List ℕ → List ℕ → Option (List ℕ)
joined base text = result_ok (address_in text (joined_url base text))

-- a link by this letter
abbrev pub found_by : ℕ → List ℕ → Found
found_by letter uri = record { letter = letter; uri = uri }

-- the link that a reference makes against a base, unless it is empty or refused
abbrev pub linked : List ℕ → Ref → Option Found
linked base ref = if has_bytes (cleaned ref.text) then option_map (found_by ref.letter) (joined base (cleaned ref.text)) else None

-- the first `base` of a page, joined to the page's address, and else that address
abbrev pub html_base_of : List ℕ → List ℕ → List ℕ
html_base_of uri payload = unwrap_or (option_and_then (λ href. joined uri (cleaned href)) (html_base payload)) uri

-- the same of any body: pages alone have a `base`
abbrev pub base_of : List ℕ → Source → List ℕ → List ℕ
base_of uri Page payload = html_base_of uri payload
base_of uri StyleSheet payload = uri
base_of uri Script payload = uri
base_of uri Nothing payload = uri

-- L, E, R and X
abbrev pub is_link_letter : ℕ → Bool
is_link_letter letter = letter == 76 || letter == 69 || letter == 82 || letter == 88

-- an address with the letter of a link
pub record IsLink (found : Found) : Type 0 where
  pub letter : IsTrue (is_link_letter found.letter)
  pub address : IsUri found.uri
