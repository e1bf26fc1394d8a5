-- Keys of robots files and paths that grow are short enough, and of allowed bytes.
use Rattle.std.proofs.Common.{◌≡◌, ℕ, ◌<◌, ◌≤◌, ◌^◌, List, ◌++◌, length, codes, Some, None, All, refl, sym, ap, subst, arith, length-append}
use Rattle.std.specs.Prelude.{Option, decimal}
use Rattle.std.specs.Int.{IsInRange}
use Rattle.std.proofs.lemmas.Bool.Decides.{nat_tests}
use Rattle.std.proofs.lemmas.Fmt.{digits_decimal, length-decimal-le}
use Rattle.std.proofs.lemmas.List.Elements.{All-append, All-from_get_or}
use Rattle.std.proofs.lemmas.Str.Parse.{numerals_by_value, tells_by_index}
use Rattle.crawl_kinds.specs.Address.{IsUri}
use Rattle.crawl_kinds.specs.Text.{is_visible, text_fault}
use Rattle.journal_valid.specs.Items.{key_by}
use Rattle.item_form.specs.Items.{key_from}
use Rattle.uri_spec.specs.Key.{key_text, robots_key}
use Rattle.uri_spec.specs.Surt.{class_of, class_text, of_parsed}
use Rattle.uri_form.proofs.Authority.{length-class_of, All-class_of}
use Rattle.uri_form.proofs.Fits.{fits, All-literal}
use Rattle.uri_form.proofs.Visible.{V}

-- ---- keys

digits_visible : (n : ℕ) → n < 2 ^ 64 → All V (decimal n)
digits_visible n few =
    let digit : (b : ℕ) → IsInRange 48 57 b → V b = λ b d. grind (arith, nat_tests) in
    All-from_get_or V (decimal n) 0 (λ i inside. digit _ (digits_decimal (numerals_by_value _ tells_by_index) n few i inside))

pub robots_key_fits : (j : ℕ) (uri : List ℕ) → j < 251 → IsUri uri → text_fault is_visible 2200 (robots_key j (class_text uri)) ≡ None
robots_key_fits j uri few address =
    subst (λ class. text_fault is_visible 2200 (robots_key j class) ≡ None) (sym class)
    (fits is_visible 2200 (robots_key j own) short
    (All-literal is_visible (codes "robots") _ refl
    (All-append V (decimal j) (codes ":" ++ own) (digits_visible j (omega arith))
    (All-literal is_visible (codes ":") own refl (All-class_of address.url address.reads.valid)))))
  where
    own : List ℕ
    own = class_of address.url

    class : class_text uri ≡ class_of address.url
    class = ap (of_parsed class_of) address.reads.parsed

    short : length (robots_key j (class_of address.url)) ≤ 2200
    short = omega (
      arith,
      length-decimal-le 3 j (omega arith) (omega arith) (omega arith),
      length-append (codes "robots") (decimal j ++ (codes ":" ++ class_of address.url)),
      length-append (decimal j) (codes ":" ++ class_of address.url),
      length-class_of address.url,
      address.reads.head,
    )

-- the key by what is known of the address
pub key_found : (o : Option ℕ) (key class uri : List ℕ) → key ≡ key_text uri → class ≡ class_text uri → key_from o key class ≡ key_by o uri
key_found None key class uri ek ec = ek
key_found (Some redirects) key class uri ek ec = ap (robots_key redirects) ec
