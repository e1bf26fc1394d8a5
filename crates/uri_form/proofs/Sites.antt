-- Addresses of one host with plain paths.
use Rattle.std.proofs.Common.{◌≡◌, ℕ, ◌≤◌, ◌<◌, Bool, true, false, not, ◌&&◌, ◌||◌, ◌==◌, eqb, List, [], ◌∷◌, ◌++◌, length, drop, codes, None, All, inl, refl, sym, ap, subst, ◌∙◌, ⊎_elim, arith, append-nil}
use Rattle.std.specs.Prelude.{bytes_eq, cond, flat_map, string_bytes}
use Rattle.std.specs.List.{concat, join_with_byte, list_all, onto_first, slice_split}
use Rattle.std.specs.Char.{to_ascii_lowercase}
use Rattle.std.proofs.lemmas.Bool.{and_parts, and_from, cases_Bool, cond-true, cond-false, eqb-true, false≢true, not-true}
use Rattle.std.proofs.lemmas.Bool.Decides.{nat_tests}
use Rattle.std.proofs.lemmas.List.Elements.{All-nil, All-cons}
use Rattle.std.proofs.lemmas.List.Splits.{join_with_byte-slice_split, length-slice_split, slice_split_none, slice_split-cons_yes, slice_split-cons_no}
use Rattle.std.proofs.lemmas.Slice.Eq.{bytes_eq-Decides}
use Rattle.std.proofs.lemmas.Str.Ascii.{lowercase_is}
use Rattle.percent_encoding.specs.Percent.{IsKept}
use Rattle.crawl_kinds.specs.Address.{IsUriOf}
use Rattle.crawl_kinds.specs.Text.{is_visible, text_fault}
use Rattle.url.specs.declared.scheme.SchemeType.{SchemeType}
use Rattle.url.specs.declared.sets.TheConstants.{PATH}
use Rattle.url.specs.declared.slicing.Position.TheVariants.{BeforeScheme, BeforePath}
use Rattle.url.specs.Input.{lowercase}
use Rattle.url.specs.Path.{IsSegment, IsSegmentList, dot_count}
use Rattle.url.specs.Scheme.{is_slash, is_special}
use Rattle.url.specs.Parser.{parse_url}
use Rattle.url.specs.Parts.{Parts, kind_of, has_authority, pieces, serialize, text_before, text_between, IsValid}
use Rattle.url.proofs.LayoutLemmas.{IsValidHead_same}
use Rattle.url.proofs.PiecesLemmas.{concat-split}
use Rattle.url.proofs.SetLemmas.{kept_from_passes}
use Rattle.url.proofs.Theorems.{parse_url-serialize_special}
use Rattle.url.proofs.ValidLemmas.{special_has_authority}
use Rattle.uri_spec.specs.Key.{canonical, is_robots, key_of, key_text, robots_key}
use Rattle.uri_spec.specs.SessionId.{path_without_ids, parts_text}
use Rattle.uri_spec.specs.Surt.{class_of, class_text, of_parsed}
use Rattle.uri_form.specs.declared.site.Site.{Site}
use Rattle.uri_form.specs.Named.{IsSite, is_plain_byte, is_plain_path, is_plain_segment, key_head}
use Rattle.uri_form.proofs.Fits.{fits}
use Rattle.uri_form.proofs.KeyBounds.{key_fits, marked_all}
use Rattle.uri_form.proofs.KeyLaws.{robots_key-first, serialize-canonical}
use Rattle.uri_form.proofs.UriLaws.{web_kind}
use Rattle.uri_form.proofs.Visible.{visible_text}

-- an address is a text of its kind
pub uri_fits : (text : List ℕ) (url : Parts) → IsUriOf text url → text_fault is_visible 2083 text ≡ None
uri_fits text url reads =
    subst (λ (t : List ℕ). text_fault is_visible 2083 t ≡ None) reads.written
    (fits is_visible 2083 (serialize url) (omega (arith, ap length reads.written, reads.within)) (visible_text url reads.valid (web_kind url.scheme reads.web)))

-- ---- plain paths are valid

kept : (xs : List ℕ) → list_all is_plain_byte xs ≡ true → All (IsKept PATH) xs
kept [] all = All-nil (IsKept PATH)
kept (x ∷ xs) all =
    let both = and_parts (is_plain_byte x) (list_all is_plain_byte xs) all in
    let here : is_plain_byte x ≡ true = both.0 in
    let ascii : x < 128 = grind (arith, nat_tests) in
    All-cons (IsKept PATH) x xs (kept_from_passes is_plain_byte PATH refl x ascii here) (kept xs both.1)

no_slash : (kind : SchemeType) (xs : List ℕ) → list_all is_plain_byte xs ≡ true → All (λ b. is_slash kind b ≡ false) xs
no_slash kind [] all = All-nil (λ b. is_slash kind b ≡ false)
no_slash kind (x ∷ xs) all =
    let both = and_parts (is_plain_byte x) (list_all is_plain_byte xs) all in
    let here : is_plain_byte x ≡ true = both.0 in
    All-cons (λ b. is_slash kind b ≡ false) x xs (grind (arith, nat_tests)) (no_slash kind xs both.1)

no_percent : (x : ℕ) → is_plain_byte x ≡ true → eqb x 37 ≡ false
no_percent x here = grind (arith, nat_tests)

segment : (kind : SchemeType) (s : List ℕ) → is_plain_segment s ≡ true → IsSegment kind s
unfolding dot_count
segment kind [] plain = record { escaped = All-nil (IsKept PATH); whole = All-nil (λ b. is_slash kind b ≡ false); resolved = refl }
segment kind (x ∷ xs) plain =
    let both = and_parts (not (eqb x 46)) (list_all is_plain_byte (x ∷ xs)) plain in
    let dotless = not-true (eqb x 46) both.0 in
    let percent = no_percent x (and_parts (is_plain_byte x) (list_all is_plain_byte xs) both.1).0 in
    record { escaped = kept (x ∷ xs) both.1; whole = no_slash kind (x ∷ xs) both.1; resolved = rw (dotless, percent) refl }

segments : (kind : SchemeType) (parts : List (List ℕ)) → list_all is_plain_segment parts ≡ true → All (IsSegment kind) parts
segments kind [] all = All-nil (IsSegment kind)
segments kind (p ∷ parts) all =
    let both = and_parts (is_plain_segment p) (list_all is_plain_segment parts) all in
    All-cons (IsSegment kind) p parts (segment kind p both.0) (segments kind parts both.1)

joined : (parts : List (List ℕ)) (text : List ℕ) → 0 < length parts → join_with_byte 47 parts ≡ text → 47 ∷ text ≡ flat_map (λ segment. 47 ∷ segment) parts
joined [] text some e = absurd (omega arith)
joined (p ∷ parts) text some e = ap (λ (t : List ℕ). 47 ∷ t) (sym e) ∙ sym (marked_all 47 p parts)

plain_path : (kind : SchemeType) (path : List ℕ) → is_plain_path path ≡ true → IsSegmentList kind path
plain_path kind [] plain = absurd (false≢true plain)
plain_path kind (b ∷ bytes) plain =
    let parts = slice_split (λ b. eqb b 47) bytes in
    let both = and_parts (eqb b 47) (list_all is_plain_segment parts) plain in
    record {
      segments = parts;
      joined = ap (λ (n : ℕ). n ∷ bytes) (eqb-true b 47 both.0) ∙ joined parts bytes (omega (arith, length-slice_split (λ b. eqb b 47) bytes)) (join_with_byte-slice_split 47 bytes);
      each = segments kind parts both.1;
    }

some_path : (path : List ℕ) → is_plain_path path ≡ true → 0 < length path
some_path [] plain = absurd (false≢true plain)
some_path (b ∷ bytes) plain = omega arith

-- ---- and hold no session id

abbrev is_path_byte : ℕ → Bool
is_path_byte b = b == 47 || is_plain_byte b

plain_part : (s : List ℕ) → is_plain_segment s ≡ true → list_all is_plain_byte s ≡ true
plain_part [] plain = refl
plain_part (x ∷ xs) plain = (and_parts (not (eqb x 46)) (list_all is_plain_byte (x ∷ xs)) plain).1

plain_parts : (parts : List (List ℕ)) → list_all is_plain_segment parts ≡ true → list_all (list_all is_plain_byte) parts ≡ true
plain_parts [] all = refl
plain_parts (p ∷ parts) all =
    let both = and_parts (is_plain_segment p) (list_all is_plain_segment parts) all in
    and_from (list_all is_plain_byte p) (list_all (list_all is_plain_byte) parts) (plain_part p both.0) (plain_parts parts both.1)

path_bytes_by : (x : ℕ) (xs : List ℕ) (parts : List (List ℕ)) → (list_all (list_all is_plain_byte) parts ≡ true → list_all is_path_byte xs ≡ true) → list_all (list_all is_plain_byte) (onto_first x parts) ≡ true → 0 < length parts → list_all is_path_byte (x ∷ xs) ≡ true
path_bytes_by x xs [] more all some = absurd (omega arith)
path_bytes_by x xs (p ∷ parts) more all some =
    let both = and_parts (list_all is_plain_byte (x ∷ p)) (list_all (list_all is_plain_byte) parts) all in
    let first = and_parts (is_plain_byte x) (list_all is_plain_byte p) both.0 in
    let here : is_path_byte x ≡ true = grind (arith, nat_tests, first.0) in
    and_from (is_path_byte x) (list_all is_path_byte xs) here (more (and_from (list_all is_plain_byte p) (list_all (list_all is_plain_byte) parts) first.1 both.1))

path_bytes : (bytes : List ℕ) → list_all (list_all is_plain_byte) (slice_split (λ b. eqb b 47) bytes) ≡ true → list_all is_path_byte bytes ≡ true
path_bytes [] all = refl
path_bytes (x ∷ xs) all =
    let rest = slice_split (λ b. eqb b 47) xs in
    ⊎_elim
    (λ slash. and_from (is_path_byte x) (list_all is_path_byte xs) (let e = eqb-true x 47 slash in grind (arith, nat_tests)) (path_bytes xs (and_parts (list_all is_plain_byte []) (list_all (list_all is_plain_byte) rest) (subst (λ (t : List (List ℕ)). list_all (list_all is_plain_byte) t ≡ true) (slice_split-cons_yes (λ b. eqb b 47) x xs slash) all)).1))
    (λ other. path_bytes_by x xs rest (path_bytes xs) (subst (λ (t : List (List ℕ)). list_all (list_all is_plain_byte) t ≡ true) (slice_split-cons_no (λ b. eqb b 47) x xs other) all) (omega (arith, length-slice_split (λ b. eqb b 47) xs)))
    (cases_Bool (eqb x 47))

all_path_bytes : (path : List ℕ) → is_plain_path path ≡ true → list_all is_path_byte path ≡ true
all_path_bytes [] plain = absurd (false≢true plain)
all_path_bytes (b ∷ bytes) plain =
    let parts = slice_split (λ b. eqb b 47) bytes in
    let both = and_parts (eqb b 47) (list_all is_plain_segment parts) plain in
    and_from (is_path_byte b) (list_all is_path_byte bytes) (let e = eqb-true b 47 both.0 in grind (arith, nat_tests)) (path_bytes bytes (plain_parts parts both.1))

no_semicolon_byte : (x : ℕ) → is_path_byte x ≡ true → eqb (to_ascii_lowercase x) 59 ≡ false
no_semicolon_byte x here = let lower = lowercase_is x in grind (arith, nat_tests)

no_semicolon : (path : List ℕ) → list_all is_path_byte path ≡ true → All (λ b. eqb b 59 ≡ false) (lowercase path)
no_semicolon [] all = All-nil (λ b. eqb b 59 ≡ false)
no_semicolon (x ∷ xs) all =
    let both = and_parts (is_path_byte x) (list_all is_path_byte xs) all in
    All-cons (λ b. eqb b 59 ≡ false) (to_ascii_lowercase x) (lowercase xs) (no_semicolon_byte x both.0) (no_semicolon xs both.1)

no_ids : (path : List ℕ) → is_plain_path path ≡ true → path_without_ids (lowercase path) ≡ lowercase path
no_ids path plain =
    ap parts_text (slice_split_none (λ b. eqb b 59) (lowercase path) (no_semicolon path (all_path_bytes path plain))) ∙ append-nil (lowercase path)

-- ---- an address with another path

abbrev pub with_path : Parts → List ℕ → Parts
with_path url path = record url { path = path; query = None }

module _ (text : List ℕ) (url : Parts) (reads : IsUriOf text url) (path : List ℕ) (plain : is_plain_path path ≡ true) where
  authority : has_authority url ≡ true
  authority = special_has_authority url reads.valid.head (ap is_special (web_kind url.scheme reads.web))

  valid : IsValid (with_path url path)
  valid = record {
    head = IsValidHead_same url (with_path url path) refl reads.valid.head;
    path = inl (plain_path (kind_of url) path plain, λ special. some_path path plain);
    query = tt;
    fragment = reads.valid.fragment;
  }

  -- what stands before the path stays
  same_front : text_before (with_path url path) BeforePath ≡ text_before url BeforePath
  same_front = let has = authority in rw has refl

  pub serialize-with_path : serialize (with_path url path) ≡ text_between url BeforeScheme BeforePath ++ path
  serialize-with_path =
      let none = reads.fragment in
      concat-split (pieces (with_path url path)) 10 ∙ (λ i. same_front i ++ concat (drop 10 (pieces (with_path url path)))) ∙ rw none (ap (λ (t : List ℕ). text_between url BeforeScheme BeforePath ++ t) (append-nil path))

  module _ (within : length (text_between url BeforeScheme BeforePath ++ path) ≤ 2083) where
    -- the text with this path is an address
    pub path_reads : IsUriOf (text_between url BeforeScheme BeforePath ++ path) (with_path url path)
    path_reads =
        subst (λ (t : List ℕ). IsUriOf t (with_path url path)) serialize-with_path (record {
          parsed = parse_url-serialize_special (with_path url path) None valid (web_kind url.scheme reads.web);
          valid = valid;
          web = reads.web;
          fragment = reads.fragment;
          written = refl;
          within = omega (arith, ap length serialize-with_path, within);
          head = omega (arith, ap length same_front, reads.head);
        })

    pub path_class : class_text (text_between url BeforeScheme BeforePath ++ path) ≡ class_of url
    path_class = ap (of_parsed class_of) path_reads.parsed

    key_is : key_text (text_between url BeforeScheme BeforePath ++ path) ≡ key_of (with_path url path)
    key_is = ap (of_parsed key_of) path_reads.parsed

    pub path_robots : path ≡ codes "/robots.txt" → key_text (text_between url BeforeScheme BeforePath ++ path) ≡ codes "robots0:" ++ class_of url
    path_robots e =
        let robots : is_robots (with_path url path) ≡ true = ap (λ (p : List ℕ). bytes_eq p (codes "/robots.txt") && true) e in
        key_is ∙ (cond-true (is_robots (with_path url path)) (robots_key 0 (class_of url)) (serialize (canonical (with_path url path))) robots ∙ robots_key-first (class_of url))

    pub path_key : (path ≡ codes "/robots.txt" → ⊥) → key_text (text_between url BeforeScheme BeforePath ++ path) ≡ key_head url ++ lowercase path
    path_key other =
        let robots : is_robots (with_path url path) ≡ false =
        ⊎_elim
        (λ yes. absurd (other ((bytes_eq-Decides path (codes "/robots.txt")).0 (and_parts (bytes_eq path (codes "/robots.txt")) true yes).0)))
        (λ same. same)
        (cases_Bool (is_robots (with_path url path))) in
        key_is ∙ (cond-false (is_robots (with_path url path)) (robots_key 0 (class_of url)) (serialize (canonical (with_path url path))) robots
        ∙ (serialize-canonical (with_path url path) valid reads.web reads.fragment
        ∙ (append-nil (key_head url ++ path_without_ids (lowercase path)) ∙ ap (λ (t : List ℕ). key_head url ++ t) (no_ids path plain))))

    pub path_key_fits : text_fault is_visible 2200 (key_text (text_between url BeforeScheme BeforePath ++ path)) ≡ None
    path_key_fits =
        subst (λ (t : List ℕ). text_fault is_visible 2200 t ≡ None) (sym key_is) (key_fits (text_between url BeforeScheme BeforePath ++ path) (with_path url path) path_reads)

module _ (site : Site) (is : IsSite site) (path : List ℕ) (plain : is_plain_path path ≡ true) (within : length (string_bytes site.head ++ path) ≤ 2083) where
  abbrev own : List ℕ
  own = text_between is.url BeforeScheme BeforePath ++ path

  text_is : string_bytes site.head ++ path ≡ own
  text_is = ap (λ (t : List ℕ). t ++ path) is.head

  short : length own ≤ 2083
  short = omega (arith, within, ap length text_is)

  pub site_reads : IsUriOf (string_bytes site.head ++ path) (with_path is.url path)
  site_reads = subst (λ (t : List ℕ). IsUriOf t (with_path is.url path)) (sym text_is) (path_reads is.text is.url is.reads path plain short)

  pub site_class : site.class ≡ class_text (string_bytes site.head ++ path)
  site_class = is.class ∙ (sym (path_class is.text is.url is.reads path plain short) ∙ ap class_text (sym text_is))

  pub site_robots : path ≡ codes "/robots.txt" → codes "robots0:" ++ site.class ≡ key_text (string_bytes site.head ++ path)
  site_robots e =
      ap (λ (t : List ℕ). codes "robots0:" ++ t) is.class ∙ (sym (path_robots is.text is.url is.reads path plain short e) ∙ ap key_text (sym text_is))

  pub site_key : (path ≡ codes "/robots.txt" → ⊥) → string_bytes site.key_head ++ lowercase path ≡ key_text (string_bytes site.head ++ path)
  site_key other =
      ap (λ (t : List ℕ). t ++ lowercase path) is.key_head ∙ (sym (path_key is.text is.url is.reads path plain short other) ∙ ap key_text (sym text_is))

  pub site_key_fits : text_fault is_visible 2200 (key_text (string_bytes site.head ++ path)) ≡ None
  site_key_fits = subst (λ (t : List ℕ). text_fault is_visible 2200 (key_text t) ≡ None) (sym text_is) (path_key_fits is.text is.url is.reads path plain short)
