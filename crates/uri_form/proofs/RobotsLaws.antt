-- The URL of a robots file is an address.
use Rattle.std.proofs.Common.{◌≡◌, ℕ, ◌≤◌, ◌<◌, Bool, true, false, ◌&&◌, ◌||◌, ◌==◌, List, [], ◌∷◌, ◌++◌, length, drop, codes, None, All, inl, refl, ap, ◌∙◌, arith, length-append}
use Rattle.std.specs.Prelude.{nat_le}
use Rattle.std.specs.List.{concat, list_all}
use Rattle.std.proofs.lemmas.Bool.{and_parts}
use Rattle.std.proofs.lemmas.Bool.Decides.{nat_tests}
use Rattle.std.proofs.lemmas.List.Elements.{All-nil, All-cons}
use Rattle.percent_encoding.specs.Percent.{IsKept}
use Rattle.crawl_kinds.specs.Address.{IsUriOf}
use Rattle.crawl_kinds.specs.Text.{is_visible, text_fault}
use Rattle.url.specs.declared.scheme.SchemeType.{SchemeType}
use Rattle.url.specs.declared.sets.TheConstants.{PATH}
use Rattle.url.specs.declared.slicing.Position.TheVariants.{BeforeScheme, BeforePath}
use Rattle.url.specs.Path.{IsSegment, IsSegmentList, dot_count}
use Rattle.url.specs.Scheme.{is_slash, is_special}
use Rattle.url.specs.Parts.{Parts, kind_of, has_authority, pieces, serialize, text_before, text_between, IsValid}
use Rattle.url.proofs.LayoutLemmas.{IsValidHead_same}
use Rattle.url.proofs.PiecesLemmas.{concat-split}
use Rattle.url.proofs.SetLemmas.{kept_from_passes}
use Rattle.url.proofs.Theorems.{parse_url-serialize_special}
use Rattle.url.proofs.ValidLemmas.{special_has_authority}
use Rattle.uri_spec.specs.Surt.{with_robots_path}
use Rattle.uri_form.proofs.Fits.{fits}
use Rattle.uri_form.proofs.UriLaws.{web_kind}
use Rattle.uri_form.proofs.Visible.{visible_text}

-- a small letter or a dot
abbrev is_plain : ℕ → Bool
is_plain b = (nat_le 97 b && nat_le b 122) || b == 46

kept_plain : (xs : List ℕ) → list_all is_plain xs ≡ true → All (IsKept PATH) xs
kept_plain [] all = All-nil (IsKept PATH)
kept_plain (x ∷ xs) all =
    let here : is_plain x ≡ true = (and_parts (is_plain x) (list_all is_plain xs) all).0 in
    let ascii : x < 128 = grind (arith, nat_tests) in
    All-cons (IsKept PATH) x xs (kept_from_passes is_plain PATH refl x ascii here) (kept_plain xs (and_parts (is_plain x) (list_all is_plain xs) all).1)

no_slash : (kind : SchemeType) (xs : List ℕ) → list_all is_plain xs ≡ true → All (λ b. is_slash kind b ≡ false) xs
no_slash kind [] all = All-nil (λ b. is_slash kind b ≡ false)
no_slash kind (x ∷ xs) all =
    let here : is_plain x ≡ true = (and_parts (is_plain x) (list_all is_plain xs) all).0 in
    All-cons (λ b. is_slash kind b ≡ false) x xs (grind (arith, nat_tests)) (no_slash kind xs (and_parts (is_plain x) (list_all is_plain xs) all).1)

segment : (kind : SchemeType) → IsSegment kind (codes "robots.txt")
unfolding dot_count
segment kind = record { escaped = kept_plain (codes "robots.txt") refl; whole = no_slash kind (codes "robots.txt") refl; resolved = refl }

robots_path : (kind : SchemeType) → IsSegmentList kind (codes "/robots.txt")
robots_path kind = record {
  segments = codes "robots.txt" ∷ [];
  joined = refl;
  each = All-cons (IsSegment kind) (codes "robots.txt") [] (segment kind) (All-nil (IsSegment kind));
}

valid_robots : (url : Parts) → IsValid url → IsValid (with_robots_path url)
valid_robots url valid = record {
  head = IsValidHead_same url (with_robots_path url) refl valid.head;
  path = inl (robots_path (kind_of url), λ special. omega arith);
  query = tt;
  fragment = valid.fragment;
}

module _ (text : List ℕ) (url : Parts) (reads : IsUriOf text url) where
  authority : has_authority url ≡ true
  authority = special_has_authority url reads.valid.head (ap is_special (web_kind url.scheme reads.web))

  -- what stands before the path stays
  same_front : text_before (with_robots_path url) BeforePath ≡ text_before url BeforePath
  same_front = let has = authority in rw has refl

  pub serialize-robots : serialize (with_robots_path url) ≡ text_between url BeforeScheme BeforePath ++ codes "/robots.txt"
  serialize-robots =
      let none = reads.fragment in
      concat-split (pieces (with_robots_path url)) 10 ∙ (λ i. same_front i ++ concat (drop 10 (pieces (with_robots_path url)))) ∙ rw none refl

  within : length (serialize (with_robots_path url)) ≤ 2083
  within = omega (arith, ap length serialize-robots, length-append (text_between url BeforeScheme BeforePath) (codes "/robots.txt"), reads.head)

  pub robots_reads : IsUriOf (serialize (with_robots_path url)) (with_robots_path url)
  robots_reads =
      let valid = valid_robots url reads.valid in record {
        parsed = parse_url-serialize_special (with_robots_path url) None valid (web_kind url.scheme reads.web);
        valid = valid;
        web = reads.web;
        fragment = reads.fragment;
        written = refl;
        within = within;
        head = omega (arith, ap length same_front, reads.head);
      }

  pub robots_fit : text_fault is_visible 2083 (serialize (with_robots_path url)) ≡ None
  robots_fit =
      fits is_visible 2083 (serialize (with_robots_path url)) within (visible_text (with_robots_path url) (valid_robots url reads.valid) (web_kind url.scheme reads.web))
