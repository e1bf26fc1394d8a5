-- Each rewrite leaves bytes out: what it gives is no longer, and visible where its text was.
use Rattle.std.proofs.Common.{◌≡◌, ℕ, ◌≤◌, Bool, true, not, List, [], ◌∷◌, ◌++◌, length, take, drop, codes, Some, None, All, eqb, refl, sym, ap, subst, ⊎_elim, arith, append-nil, append_assoc, length-append, length-take, length-drop, take_at, drop_at}
use Rattle.std.specs.Prelude.{Option, is_some, unwrap_or, option_map, decimal, filter, flat_map}
use Rattle.std.specs.List.{slice_split, join_with_byte}
use Rattle.std.specs.Char.{to_ascii_lowercase}
use Rattle.std.proofs.lemmas.Bool.{cases_Bool, cond-true, cond-false, cond_both}
use Rattle.std.proofs.lemmas.Bool.Decides.{nat_tests}
use Rattle.std.proofs.lemmas.List.{length-map}
use Rattle.std.proofs.lemmas.List.Elements.{All-nil, All-cons, All-append, All-tail, All-take, All-drop, All-map, All-weaker}
use Rattle.std.proofs.lemmas.List.Splits.{join_with_byte-slice_split}
use Rattle.std.proofs.lemmas.Str.Ascii.{lowercase_is}
use Rattle.crawl_kinds.specs.Address.{is_web, IsUriOf}
use Rattle.crawl_kinds.specs.Text.{is_visible, text_fault}
use Rattle.url.specs.declared.host.Host.{Host}
use Rattle.url.specs.declared.host.Host.TheVariants.{Domain, Ipv4, Ipv6}
use Rattle.url.specs.declared.slicing.Position.TheVariants.{BeforeScheme, BeforeUsername, AfterHost, AfterPort, AfterQuery}
use Rattle.url.specs.Ascii.{dot}
use Rattle.url.specs.Input.{is_empty, lowercase, trim_end, when}
use Rattle.url.specs.Host.{host_text, host_map}
use Rattle.url.specs.Parts.{Parts, kind_of, host_or_empty, pieces, serialize, offset, text_between, IsValid}
use Rattle.url.proofs.PiecesLemmas.{steps, take-upto}
use Rattle.url.proofs.TextLemmas.{All_part}
use Rattle.uri_spec.specs.Surt.{class_of, labels, port_text, query_text}
use Rattle.uri_spec.specs.Key.{canonical, key_of, is_robots, is_www, robots_key, labels_without_www, name_without_www, nonempty}
use Rattle.uri_spec.specs.SessionId.{ampersand, semicolon, is_id_member, has_id, part_text, parts_text, path_without_ids, query_without_ids}
use Rattle.uri_form.specs.Members.{whole_query}
use Rattle.uri_form.proofs.Fits.{fits, All-literal}
use Rattle.uri_form.proofs.Authority.{length-class_of, All-class_of, length-port_text, All-port_text, length-query_text, All-query_text}
use Rattle.uri_form.proofs.KeyLaws.{robots_key-first, serialize-canonical}
use Rattle.uri_form.proofs.UriLaws.{web_kind}
use Rattle.uri_form.proofs.Visible.{V, own_host, port_visible, query_kept, path_visible, visible_text}

-- ys is no longer than xs, and visible where xs is
pub record Lessens (xs ys : List ℕ) : Type 0 where
  pub shorter : length ys ≤ length xs
  pub visible : All V xs → All V ys

lessens_same : (xs : List ℕ) → Lessens xs xs
lessens_same xs = record { shorter = omega arith; visible = λ all. all }

lessens_by : (xs ys zs : List ℕ) → Lessens xs ys → Lessens ys zs → Lessens xs zs
lessens_by xs ys zs first second = record { shorter = omega (arith, first.shorter, second.shorter); visible = λ all. second.visible (first.visible all) }

lessens_append : (xs xs' ys ys' : List ℕ) → Lessens xs ys → Lessens xs' ys' → Lessens (xs ++ xs') (ys ++ ys')
lessens_append xs xs' ys ys' front back = record {
  shorter = omega (arith, front.shorter, back.shorter, length-append xs xs', length-append ys ys');
  visible = λ all. All-append V ys ys' (front.visible (subst (All V) (take_front xs xs') (All-take V (length xs) (xs ++ xs') all))) (back.visible (subst (All V) (drop_front xs xs') (All-drop V (length xs) (xs ++ xs') all)));
} where
  take_front : (a b : List ℕ) → take (length a) (a ++ b) ≡ a
  take_front a b = take_at a b _ refl

  drop_front : (a b : List ℕ) → drop (length a) (a ++ b) ≡ b
  drop_front a b = drop_at a b _ refl

lessens_drop : (n : ℕ) (xs : List ℕ) → Lessens xs (drop n xs)
lessens_drop n xs = record { shorter = omega (arith, length-drop n xs); visible = All-drop V n xs }

lessens_take : (n : ℕ) (xs : List ℕ) → Lessens xs (take n xs)
lessens_take n xs = record { shorter = omega (arith, length-take n xs); visible = All-take V n xs }

-- a byte that stands before both may be left out
lessens_tail : (c : ℕ) (xs ys : List ℕ) → V c → Lessens (c ∷ xs) (c ∷ ys) → Lessens xs ys
lessens_tail c xs ys here less = record { shorter = omega (arith, less.shorter); visible = λ all. All-tail V c ys (less.visible (All-cons V c xs here all)) }

-- ---- the rewrites

lower_visible : (b : ℕ) → V b → V (to_ascii_lowercase b)
lower_visible b here = let lower = lowercase_is b in grind (arith, nat_tests)

lowercase_lessens : (xs : List ℕ) → Lessens xs (lowercase xs)
lowercase_lessens xs = record { shorter = omega (arith, length-map xs to_ascii_lowercase); visible = λ all. All-map V to_ascii_lowercase xs (All-weaker V (λ b. V (to_ascii_lowercase b)) lower_visible xs all) }

few_labels : (ls : List (List ℕ)) → Lessens (join_with_byte dot ls) (join_with_byte dot (labels_without_www ls))
few_labels [] = lessens_same []
few_labels (a ∷ []) = lessens_same a
few_labels (a ∷ b ∷ []) = lessens_same (join_with_byte dot (a ∷ b ∷ []))
few_labels (a ∷ b ∷ c ∷ more) =
    let whole = join_with_byte dot (a ∷ b ∷ c ∷ more) in
    let rest = join_with_byte dot (b ∷ c ∷ more) in
    ⊎_elim
    (λ www. subst (λ ls. Lessens whole (join_with_byte dot ls)) (sym (cond-true _ _ _ www)) (subst (Lessens whole) (drop_at (a ++ dot ∷ []) rest _ refl) (subst (λ t. Lessens whole (drop (length (a ++ dot ∷ [])) t)) (sym (append_assoc a (dot ∷ []) rest)) (lessens_drop _ whole))))
    (λ other. subst (λ ls. Lessens whole (join_with_byte dot ls)) (sym (cond-false _ _ _ other)) (lessens_same whole))
    (cases_Bool (is_www a))

name_lessens : (name : List ℕ) → Lessens name (name_without_www name)
name_lessens name = subst (λ t. Lessens t (name_without_www name)) (join_with_byte-slice_split dot name) (few_labels (labels name))

host_lessens : (host : Host (List ℕ)) → Lessens (host_text host) (host_text (host_map name_without_www host))
host_lessens (Domain name) = name_lessens name
host_lessens (Ipv4 address) = lessens_same (host_text (Ipv4 address))
host_lessens (Ipv6 address) = lessens_same (host_text (Ipv6 address))

abbrev marked : ℕ → List ℕ → List ℕ
marked c part = c ∷ part

part_lessens : (part : List ℕ) → Lessens (semicolon ∷ part) (part_text part)
part_lessens part =
    cond_both (has_id part) (drop 32 (drop 11 part)) (semicolon ∷ part) (Lessens (semicolon ∷ part)) (λ _. lessens_by (semicolon ∷ part) (drop 11 part) (drop 32 (drop 11 part)) (lessens_by (semicolon ∷ part) part (drop 11 part) (lessens_drop 1 (semicolon ∷ part)) (lessens_drop 11 part)) (lessens_drop 32 (drop 11 part))) (λ _. lessens_same (semicolon ∷ part))

parts_lessen : (f g : List ℕ → List ℕ) → ((part : List ℕ) → Lessens (f part) (g part)) → (parts : List (List ℕ)) → Lessens (flat_map f parts) (flat_map g parts)
parts_lessen f g each [] = lessens_same []
parts_lessen f g each (part ∷ parts) = lessens_append (f part) (flat_map f parts) (g part) (flat_map g parts) (each part) (parts_lessen f g each parts)

pub marked_all : (c : ℕ) (part : List ℕ) (parts : List (List ℕ)) → flat_map (marked c) (part ∷ parts) ≡ c ∷ join_with_byte c (part ∷ parts)
marked_all c part [] = append-nil (marked c part)
marked_all c part (next ∷ parts) = ap (λ t. marked c part ++ t) (marked_all c next parts)

joined_front : (c : ℕ) (first : List ℕ) (others : List (List ℕ)) → first ++ flat_map (marked c) others ≡ join_with_byte c (first ∷ others)
joined_front c first [] = append-nil first
joined_front c first (next ∷ others) = ap (λ t. first ++ t) (marked_all c next others)

path_parts : (parts : List (List ℕ)) → Lessens (join_with_byte semicolon parts) (parts_text parts)
path_parts [] = lessens_same []
path_parts (first ∷ others) =
    subst (λ t. Lessens t (parts_text (first ∷ others))) (joined_front semicolon first others) (lessens_append first (flat_map (marked semicolon) others) first (flat_map part_text others) (lessens_same first) (parts_lessen (marked semicolon) part_text part_lessens others))

path_lessens : (path : List ℕ) → Lessens path (path_without_ids path)
path_lessens path = subst (λ t. Lessens t (path_without_ids path)) (join_with_byte-slice_split semicolon path) (path_parts (slice_split (λ b. eqb b semicolon) path))

abbrev is_kept : List ℕ → Bool
is_kept member = not (is_id_member member)

kept_lessen : (members : List (List ℕ)) → Lessens (flat_map (marked ampersand) members) (flat_map (marked ampersand) (filter is_kept members))
kept_lessen [] = lessens_same []
kept_lessen (member ∷ members) =
    let rest = kept_lessen members in
    let whole = marked ampersand member ++ flat_map (marked ampersand) members in
    ⊎_elim
    (λ kept. subst (λ ms. Lessens whole (flat_map (marked ampersand) ms)) (sym (cond-true _ _ _ kept)) (lessens_append (marked ampersand member) (flat_map (marked ampersand) members) (marked ampersand member) (flat_map (marked ampersand) (filter is_kept members)) (lessens_same (marked ampersand member)) rest))
    (λ left. subst (λ ms. Lessens whole (flat_map (marked ampersand) ms)) (sym (cond-false _ _ _ left)) (lessens_by whole (flat_map (marked ampersand) members) _ (subst (Lessens whole) (drop_at (marked ampersand member) (flat_map (marked ampersand) members) _ refl) (lessens_drop (length (marked ampersand member)) whole)) rest))
    (cases_Bool (is_kept member))

-- between the members that are kept, as the query was between all
kept_join : (members kept : List (List ℕ)) → Lessens (flat_map (marked ampersand) members) (flat_map (marked ampersand) kept) → Lessens (join_with_byte ampersand members) (join_with_byte ampersand kept)
kept_join members [] less = record { shorter = omega arith; visible = λ all. All-nil V }
kept_join [] (k ∷ kept) less = absurd (omega (arith, less.shorter))
kept_join (m ∷ members) (k ∷ kept) less =
    lessens_tail ampersand (join_with_byte ampersand (m ∷ members)) (join_with_byte ampersand (k ∷ kept)) refl (subst (Lessens _) (marked_all ampersand k kept) (subst (λ t. Lessens t (flat_map (marked ampersand) (k ∷ kept))) (marked_all ampersand m members) less))

query_lessens : (query : List ℕ) → Lessens query (query_without_ids query)
query_lessens query =
    let members = slice_split (λ b. eqb b ampersand) query in
    subst (λ t. Lessens t (query_without_ids query)) (join_with_byte-slice_split ampersand query) (kept_join members (filter is_kept members) (kept_lessen members))

tidy_lessens : (query : List ℕ) → Lessens (codes "?" ++ query) (query_text (nonempty query))
tidy_lessens query =
    cond_both (is_empty query) None (Some query) (λ o. Lessens (codes "?" ++ query) (query_text o)) (λ _. record { shorter = omega arith; visible = λ all. All-nil V }) (λ _. lessens_same (codes "?" ++ query))

whole_query_lessens : (query : Option (List ℕ)) → Lessens (query_text query) (whole_query query)
whole_query_lessens None = lessens_same []
whole_query_lessens (Some query) =
    let lower = lowercase query in
    let left = query_without_ids lower in
    let short = trim_end (λ b. eqb b ampersand) left in
    let inner : Lessens query short = lessens_by query lower short (lowercase_lessens query) (lessens_by lower left short (query_lessens lower) (lessens_take _ left)) in
    lessens_by (codes "?" ++ query) (codes "?" ++ short) (query_text (nonempty short)) (lessens_append (codes "?") query (codes "?") short (lessens_same (codes "?")) inner) (tidy_lessens short)

-- ---- the key

pub made : (url : Parts) → IsValid url → is_web url ≡ true → url.fragment ≡ None → Lessens ((((text_between url BeforeScheme BeforeUsername ++ host_text (host_or_empty url)) ++ text_between url AfterHost AfterPort) ++ url.path) ++ query_text url.query) (serialize (canonical url))
made url valid web none =
    let scheme = text_between url BeforeScheme BeforeUsername in
    let host = host_text (host_or_empty url) in
    let host' = host_text (host_map name_without_www (host_or_empty url)) in
    let port = text_between url AfterHost AfterPort in
    let path' = path_without_ids (lowercase url.path) in
    let paths = lessens_by url.path (lowercase url.path) path' (lowercase_lessens url.path) (path_lessens (lowercase url.path)) in
    subst (Lessens _) (sym (serialize-canonical url valid web none)) (lessens_append _ _ _ _ (lessens_append _ _ _ _ (lessens_append _ _ _ _ (lessens_append scheme host scheme host' (lessens_same scheme) (host_lessens (host_or_empty url))) (lessens_same port)) paths) (whole_query_lessens url.query))

port_between : (port : Option ℕ) → when (is_some port) (codes ":") ++ (unwrap_or (option_map decimal port) [] ++ []) ≡ port_text port
port_between None = refl
port_between (Some port) = ap (λ t. codes ":" ++ t) (append-nil (decimal port))

length-own : (url : Parts) → length ((((text_between url BeforeScheme BeforeUsername ++ host_text (host_or_empty url)) ++ text_between url AfterHost AfterPort) ++ url.path) ++ query_text url.query) ≤ offset url AfterQuery
length-own url =
    let s = steps url in
    let scheme = text_between url BeforeScheme BeforeUsername in
    let host = host_text (host_or_empty url) in
    let port = text_between url AfterHost AfterPort in
    let begins : length scheme ≡ offset url BeforeUsername = refl in
    omega (
      arith,
      begins,
      ap length (port_between url.port),
      length-port_text url.port,
      length-query_text url.query,
      s.after_username,
      s.before_password,
      s.after_password,
      s.before_host,
      s.after_host,
      s.before_port,
      s.after_port,
      s.before_path,
      s.after_path,
      s.before_query,
      s.after_query,
      length-append (((scheme ++ host) ++ port) ++ url.path) (query_text url.query),
      length-append ((scheme ++ host) ++ port) url.path,
      length-append (scheme ++ host) port,
      length-append scheme host,
    )

All-own : (url : Parts) → IsValid url → is_web url ≡ true → All V ((((text_between url BeforeScheme BeforeUsername ++ host_text (host_or_empty url)) ++ text_between url AfterHost AfterPort) ++ url.path) ++ query_text url.query)
All-own url valid web =
    let kind = web_kind url.scheme web in
    let scheme = text_between url BeforeScheme BeforeUsername in
    let host = host_text (host_or_empty url) in
    let port = text_between url AfterHost AfterPort in
    let begins : All V scheme = subst (All V) (take-upto (pieces url) 2) (All-take V _ (serialize url) (visible_text url valid kind)) in
    let ports : All V port = subst (All V) (sym (port_between url.port)) (All-port_text url.port (port_visible url.scheme url.port valid.head.port)) in
    let query = All-query_text url.query (All_part V _ url.query (query_kept (kind_of url) kind) valid.query) in
    All-append V (((scheme ++ host) ++ port) ++ url.path) (query_text url.query) (All-append V ((scheme ++ host) ++ port) url.path (All-append V (scheme ++ host) port (All-append V scheme host begins (own_host url valid)) ports) (path_visible url valid kind)) query

pub key_fits : (text : List ℕ) (url : Parts) → IsUriOf text url → text_fault is_visible 2200 (key_of url) ≡ None
key_fits text url reads =
    let s = steps url in
    let class = class_of url in
    let less = made url reads.valid reads.web reads.fragment in
    cond_both (is_robots url) (robots_key 0 class) (serialize (canonical url)) (λ key. text_fault is_visible 2200 key ≡ None)
    (λ _. subst (λ key. text_fault is_visible 2200 key ≡ None) (sym (robots_key-first class)) (fits is_visible 2200 (codes "robots0:" ++ class) (omega (arith, length-class_of url, reads.head)) (All-literal is_visible (codes "robots0:") class refl (All-class_of url reads.valid))))
    (λ _. fits is_visible 2200 (serialize (canonical url)) (omega (arith, less.shorter, length-own url, s.before_fragment, s.after_fragment, s.whole, ap length reads.written, reads.within)) (less.visible (All-own url reads.valid reads.web)))
