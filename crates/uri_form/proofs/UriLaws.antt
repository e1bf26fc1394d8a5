-- The texts of the web's URLs are addresses.
use Rattle.std.proofs.Common.{◌≡◌, ◌≤◌, length, ℕ, List, true, ◌||◌, codes, None, refl, ap, ◌∙◌, ⊎_elim}
use Rattle.std.specs.Prelude.{bytes_eq}
use Rattle.std.proofs.lemmas.Bool.{cases_Bool}
use Rattle.std.proofs.lemmas.Slice.Eq.{bytes_eq-Decides}
use Rattle.url.specs.declared.scheme.SchemeType.TheVariants.{SpecialNotFile}
use Rattle.url.specs.Scheme.{scheme_type}
use Rattle.url.specs.declared.slicing.Position.TheVariants.{BeforePath}
use Rattle.url.specs.Parts.{Parts, serialize, offset, IsValid}
use Rattle.url.proofs.LayoutLemmas.{IsValidHead_same}
use Rattle.url.proofs.OnLiterals.{url_on_literals}
use Rattle.url.proofs.Theorems.{parse_url-serialize_special}
use Rattle.crawl_kinds.specs.Address.{is_web, without_fragment, IsUri, most_uri, most_head}

http_kind : scheme_type (codes "http") ≡ SpecialNotFile
unfolding url_on_literals
http_kind = refl

https_kind : scheme_type (codes "https") ≡ SpecialNotFile
unfolding url_on_literals
https_kind = refl

pub web_kind : (s : List ℕ) → (bytes_eq s (codes "http") || bytes_eq s (codes "https")) ≡ true → scheme_type s ≡ SpecialNotFile
web_kind s web =
    ⊎_elim
    (λ http. ap scheme_type ((bytes_eq-Decides s (codes "http")).0 http) ∙ http_kind)
    (λ other. ap scheme_type ((bytes_eq-Decides s (codes "https")).0 (rw other at web)) ∙ https_kind)
    (cases_Bool (bytes_eq s (codes "http")))

pub valid_without : (url : Parts) → IsValid url → IsValid (without_fragment url)
valid_without url valid = record {
  head = IsValidHead_same url (without_fragment url) refl valid.head;
  path = valid.path;
  query = valid.query;
  fragment = tt;
}

-- a web URL's text without the fragment is an address, where it is short enough
pub uri_of_web : (url : Parts) → IsValid url → is_web url ≡ true → length (serialize (without_fragment url)) ≤ most_uri → offset url BeforePath ≤ most_head → IsUri (serialize (without_fragment url))
uri_of_web url valid web within head =
    let short = valid_without url valid in record {
      url = without_fragment url;
      reads = record {
        parsed = parse_url-serialize_special (without_fragment url) None short (web_kind url.scheme web);
        valid = short;
        web = web;
        fragment = refl;
        written = refl;
        within = within;
        head = head;
      };
    }
