-- Hosts, authorities, classes and SURT forms: that each is short enough, and of visible bytes.
use Rattle.std.proofs.Common.{◌≡◌, ℕ, ◌+◌, ◌≤◌, ◌<◌, Bool, true, false, cond, not, List, [], ◌∷◌, ◌++◌, length, codes, Some, None, All, refl, sym, ap, ◌∙◌, subst, ⊎_elim, arith, length-append, length-take}
use Rattle.std.specs.Prelude.{Option, MatchOption, is_some, is_none, ◌&&◌, ◌==◌, unwrap_or, option_map, option_and_then, decimal, reverse, flat_map, if◌then◌else◌}
use Rattle.std.specs.List.{slice_split, onto_first, before_last}
use Rattle.std.proofs.lemmas.Bool.{cases_Bool, cond_both, true≢false}
use Rattle.std.proofs.lemmas.Bool.Decides.{nat_tests}
use Rattle.std.proofs.lemmas.List.{reverse-append}
use Rattle.std.proofs.lemmas.List.Concat.{flat_map-append}
use Rattle.std.proofs.lemmas.List.Elements.{All-nil, All-cons, All-append, All-head, All-tail, All-take}
use Rattle.std.proofs.lemmas.List.Splits.{length-slice_split}
use Rattle.crawl_kinds.specs.Address.{is_web, IsUriOf}
use Rattle.crawl_kinds.specs.Text.{is_visible, text_fault}
use Rattle.url.specs.declared.host.Host.{Host}
use Rattle.url.specs.declared.host.Host.TheVariants.{Domain, Ipv4, Ipv6}
use Rattle.url.specs.declared.scheme.SchemeType.{SchemeType}
use Rattle.url.specs.declared.scheme.SchemeType.TheVariants.{SpecialNotFile}
use Rattle.url.specs.declared.slicing.Position.TheVariants.{BeforePath, AfterPath, AfterQuery}
use Rattle.url.specs.Ascii.{slash}
use Rattle.url.specs.Scheme.{is_special}
use Rattle.url.specs.Host.{host_text, is_empty_host, domain_of, IsHostOf}
use Rattle.url.specs.Parts.{Parts, kind_of, host_or_empty, nonempty_host, offset, IsValid}
use Rattle.url.proofs.PiecesLemmas.{steps}
use Rattle.url.proofs.TextLemmas.{EachAll, All_part}
use Rattle.uri_spec.specs.Surt.{labels, reversed_labels, surt_host, port_text, query_text, authority_of, class_of, surt_of, is_https}
use Rattle.uri_spec.specs.Prefix.{is_name, prefix_end, prefix_of}
use Rattle.uri_form.proofs.Fits.{fits, All-literal}
use Rattle.uri_form.proofs.UriLaws.{web_kind}
use Rattle.uri_form.proofs.Visible.{V, own_host, port_visible, query_kept, path_visible}

-- ---- a host that `url` names no domain of

as_it_stands : (host : Host (List ℕ)) → IsHostOf SpecialNotFile host → option_and_then domain_of (if not (is_empty_host host) then Some host else None) ≡ None → surt_host host ≡ host_text host
as_it_stands (Domain name) valid none =
    let some : not (is_empty_host (Domain name)) ≡ true = grind (arith, nat_tests) in
    let found : Some name ≡ None = rw some at none in
    cc
as_it_stands (Ipv4 address) valid none = refl
as_it_stands (Ipv6 address) valid none = refl

of_option : (kind : SchemeType) → kind ≡ SpecialNotFile → (host : Option (Host (List ℕ))) → MatchOption host (is_special kind ≡ false) (IsHostOf kind) → option_and_then domain_of (if not (is_empty_host (unwrap_or host (Domain []))) then host else None) ≡ None → surt_host (unwrap_or host (Domain [])) ≡ host_text (unwrap_or host (Domain []))
of_option kind special None valid none = absurd (true≢false (sym (ap is_special special) ∙ valid))
of_option kind special (Some host) valid none = as_it_stands host (rw special at valid) none

-- an address stands as it is
pub surt_host-address : (url : Parts) → IsValid url → is_web url ≡ true → option_and_then domain_of (nonempty_host url) ≡ None → surt_host (host_or_empty url) ≡ host_text (host_or_empty url)
surt_host-address url valid web none = of_option (kind_of url) (web_kind url.scheme web) url.host valid.head.host none

-- `url` names a domain just where the host is a name
named_by : (kind : SchemeType) → kind ≡ SpecialNotFile → (host : Option (Host (List ℕ))) → MatchOption host (is_special kind ≡ false) (IsHostOf kind) → is_some (option_and_then domain_of (if not (is_empty_host (unwrap_or host (Domain []))) then host else None)) ≡ is_name (unwrap_or host (Domain []))
named_by kind special None valid = absurd (true≢false (sym (ap is_special special) ∙ valid))
named_by kind special (Some (Domain name)) valid =
    let some = (rw special at valid).1 in
    grind (arith, nat_tests)
named_by kind special (Some (Ipv4 address)) valid = refl
named_by kind special (Some (Ipv6 address)) valid = refl

pub is_some-domain : (url : Parts) → IsValid url → is_web url ≡ true → is_some (option_and_then domain_of (nonempty_host url)) ≡ is_name (host_or_empty url)
is_some-domain url valid web = named_by (kind_of url) (web_kind url.scheme web) url.host valid.head.host

-- ---- labels

abbrev with_comma : List ℕ → List ℕ
with_comma label = label ++ codes ","

length-reverse : (f : List ℕ → List ℕ) (xss : List (List ℕ)) → length (flat_map f (reverse xss)) ≡ length (flat_map f xss)
length-reverse f [] = refl
length-reverse f (xs ∷ xss) =
    let turned = ap (λ l. length (flat_map f l)) (reverse-append (xs ∷ []) xss) ∙ ap length (flat_map-append f (reverse xss) (xs ∷ [])) in
    let rest = length-reverse f xss in
    omega (arith, turned, length-append {A = ℕ})

length-onto_first : (x : ℕ) (parts : List (List ℕ)) → 0 < length parts → length (flat_map with_comma (onto_first x parts)) ≡ length (flat_map with_comma parts) + 1
length-onto_first x [] some = absurd (omega (arith, some))
length-onto_first x (part ∷ parts) some = omega arith

length-parts : (p : ℕ → Bool) (xs : List ℕ) → length (flat_map with_comma (slice_split p xs)) ≡ length xs + 1
length-parts p [] = refl
length-parts p (x ∷ xs) =
    let rest = length-parts p xs in
    let some : 0 < length (slice_split p xs) = omega (arith, length-slice_split p xs) in
    ⊎_elim (λ yes. rw yes (omega (arith, rest))) (λ no. rw no (omega (arith, rest, length-onto_first x (slice_split p xs) some))) (cases_Bool (p x))

length-reversed_labels : (name : List ℕ) → length (reversed_labels name) ≡ length name + 1
length-reversed_labels name = length-reverse with_comma (labels name) ∙ length-parts _ name

each_onto_first : (x : ℕ) (parts : List (List ℕ)) → V x → EachAll V parts → EachAll V (onto_first x parts)
each_onto_first x [] here each = (All-cons V x [] here (All-nil V), tt)
each_onto_first x (part ∷ parts) here each = (All-cons V x part here each.0, each.1)

each_part : (p : ℕ → Bool) (xs : List ℕ) → All V xs → EachAll V (slice_split p xs)
each_part p [] all = (All-nil V, tt)
each_part p (x ∷ xs) all =
    let rest = each_part p xs (All-tail V x xs all) in
    cond_both (p x) _ _ (EachAll V) (λ yes. (All-nil V, rest)) (λ no. each_onto_first x (slice_split p xs) (All-head V x xs all) rest)

each_append : (xss yss : List (List ℕ)) → EachAll V xss → EachAll V yss → EachAll V (xss ++ yss)
each_append [] yss left right = right
each_append (xs ∷ xss) yss left right = (left.0, each_append xss yss left.1 right)

each_reverse : (xss : List (List ℕ)) → EachAll V xss → EachAll V (reverse xss)
each_reverse [] each = tt
each_reverse (xs ∷ xss) each = subst (EachAll V) (sym (reverse-append (xs ∷ []) xss)) (each_append (reverse xss) (xs ∷ []) (each_reverse xss each.1) (each.0, tt))

one : (b : ℕ) → V b → All V (b ∷ [])
one b here = All-cons V b [] here (All-nil V)

All-with_comma : (xss : List (List ℕ)) → EachAll V xss → All V (flat_map with_comma xss)
All-with_comma [] each = All-nil V
All-with_comma (xs ∷ xss) each = All-append V (with_comma xs) (flat_map with_comma xss) (All-append V xs (codes ",") each.0 (one 44 refl)) (All-with_comma xss each.1)

All-reversed_labels : (name : List ℕ) → All V name → All V (reversed_labels name)
All-reversed_labels name all = All-with_comma (reverse (labels name)) (each_reverse (labels name) (each_part _ name all))

-- ---- hosts, ports and queries

length-surt_host : (host : Host (List ℕ)) → length (surt_host host) ≤ length (host_text host) + 1
length-surt_host (Domain name) = omega (arith, length-reversed_labels name)
length-surt_host (Ipv4 address) = omega arith
length-surt_host (Ipv6 address) = omega arith

All-surt_host : (host : Host (List ℕ)) → All V (host_text host) → All V (surt_host host)
All-surt_host (Domain name) all = All-reversed_labels name all
All-surt_host (Ipv4 address) all = all
All-surt_host (Ipv6 address) all = all

pub length-port_text : (port : Option ℕ) → length (port_text port) ≡ cond (is_some port) 1 0 + length (unwrap_or (option_map decimal port) [])
length-port_text None = refl
length-port_text (Some port) = omega arith

pub All-port_text : (port : Option ℕ) → All V (unwrap_or (option_map decimal port) []) → All V (port_text port)
All-port_text None all = All-nil V
All-port_text (Some port) all = All-cons V 58 (decimal port) refl all

pub length-query_text : (query : Option (List ℕ)) → length (query_text query) ≡ cond (is_some query) 1 0 + length (unwrap_or query [])
length-query_text None = refl
length-query_text (Some query) = omega arith

pub All-query_text : (query : Option (List ℕ)) → All V (unwrap_or query []) → All V (query_text query)
All-query_text None all = All-nil V
All-query_text (Some query) all = All-cons V 63 query refl all

-- ---- authorities, classes and SURT forms

pub length-authority_of : (url : Parts) → length (authority_of url) ≤ offset url BeforePath + 1
length-authority_of url =
    let s = steps url in
    let host = length-surt_host (host_or_empty url) in
    let port = length-port_text url.port in
    omega (arith, s.after_host, s.before_port, s.after_port, s.before_path, length-append (surt_host (host_or_empty url)) (port_text url.port))

pub All-authority_of : (url : Parts) → IsValid url → All V (authority_of url)
All-authority_of url valid =
    All-append V (surt_host (host_or_empty url)) (port_text url.port) (All-surt_host (host_or_empty url) (own_host url valid)) (All-port_text url.port (port_visible url.scheme url.port valid.head.port))

abbrev mark : Bool → List ℕ
mark secure = if secure then codes "#https" else []

length-mark : (secure : Bool) → length (mark secure) ≤ 6
length-mark true = omega arith
length-mark false = omega arith

All-mark : (secure : Bool) → All V (mark secure)
All-mark true = All-literal is_visible (codes "#https") [] refl (All-nil V)
All-mark false = All-nil V

pub length-class_of : (url : Parts) → length (class_of url) ≤ offset url BeforePath + 7
length-class_of url =
    omega (arith, length-authority_of url, length-mark (is_https url), length-append (authority_of url) (mark (is_https url)))

pub All-class_of : (url : Parts) → IsValid url → All V (class_of url)
All-class_of url valid = All-append V (authority_of url) (mark (is_https url)) (All-authority_of url valid) (All-mark (is_https url))

http_mark : (xs : List ℕ) → All V xs → All V (codes "http://(" ++ xs)
http_mark xs all = All-literal is_visible (codes "http://(") xs refl all

length-surt_of : (url : Parts) → length (surt_of url) ≤ offset url AfterQuery + 10
length-surt_of url =
    let s = steps url in
    omega (arith, length-authority_of url, length-query_text url.query, s.after_path, s.before_query, s.after_query, length-append (authority_of url) (codes ")" ++ (url.path ++ query_text url.query)), length-append url.path (query_text url.query))

All-surt_of : (url : Parts) → IsValid url → is_web url ≡ true → All V (surt_of url)
All-surt_of url valid web =
    let kind = web_kind url.scheme web in
    let query = All-query_text url.query (All_part V _ url.query (query_kept (kind_of url) kind) valid.query) in
    let tail = All-append V url.path (query_text url.query) (path_visible url valid kind) query in
    http_mark (authority_of url ++ (codes ")" ++ (url.path ++ query_text url.query))) (All-append V (authority_of url) (codes ")" ++ (url.path ++ query_text url.query)) (All-authority_of url valid) (All-cons V 41 (url.path ++ query_text url.query) refl tail))

length-prefix_end : (named : Bool) (url : Parts) → length (prefix_end named url) ≤ length url.path + 2
length-prefix_end true url = omega (arith, length-take {A = ℕ}, length-append (before_last (λ b. b == slash) url.path) (codes "/"))
length-prefix_end false url = cond_both (is_name (host_or_empty url) && is_none url.port) [] (codes ")") (λ end. length end ≤ length url.path + 2) (λ _. omega arith) (λ _. omega arith)

All-prefix_end : (named : Bool) (url : Parts) → All V url.path → All V (prefix_end named url)
All-prefix_end true url path = All-cons V 41 (before_last (λ b. b == slash) url.path ++ codes "/") refl (All-append V (before_last (λ b. b == slash) url.path) (codes "/") (All-take V _ url.path path) (one 47 refl))
All-prefix_end false url path = cond_both (is_name (host_or_empty url) && is_none url.port) [] (codes ")") (All V) (λ _. All-nil V) (λ _. one 41 refl)

length-prefix_of : (named : Bool) (url : Parts) → length (prefix_of named url) ≤ offset url AfterPath + 11
length-prefix_of named url =
    let s = steps url in
    omega (arith, length-authority_of url, length-prefix_end named url, s.after_path, length-append (authority_of url) (prefix_end named url))

All-prefix_of : (named : Bool) (url : Parts) → IsValid url → is_web url ≡ true → All V (prefix_of named url)
All-prefix_of named url valid web =
    http_mark (authority_of url ++ prefix_end named url) (All-append V (authority_of url) (prefix_end named url) (All-authority_of url valid) (All-prefix_end named url (path_visible url valid (web_kind url.scheme web))))

-- ---- of addresses

pub surt_fits : (text : List ℕ) (url : Parts) → IsUriOf text url → text_fault is_visible 2200 (surt_of url) ≡ None
surt_fits text url reads =
    let s = steps url in
    fits is_visible 2200 (surt_of url) (omega (arith, length-surt_of url, s.before_fragment, s.after_fragment, s.whole, ap length reads.written, reads.within)) (All-surt_of url reads.valid reads.web)

pub class_fits : (text : List ℕ) (url : Parts) → IsUriOf text url → text_fault is_visible 2200 (class_of url) ≡ None
class_fits text url reads =
    fits is_visible 2200 (class_of url) (omega (arith, length-class_of url, reads.head)) (All-class_of url reads.valid)

pub prefix_fits : (named : Bool) (text : List ℕ) (url : Parts) → IsUriOf text url → text_fault is_visible 2200 (prefix_of named url) ≡ None
prefix_fits named text url reads =
    let s = steps url in
    fits is_visible 2200 (prefix_of named url) (omega (arith, length-prefix_of named url, s.before_query, s.after_query, s.before_fragment, s.after_fragment, s.whole, ap length reads.written, reads.within)) (All-prefix_of named url reads.valid reads.web)
