-- What a canonical key is made of, that it is short enough, and of visible bytes.
use Rattle.std.proofs.Common.{◌≡◌, ℕ, true, false, List, [], ◌++◌, codes, Some, None, refl, sym, ap, ◌∙◌, arith, append-nil, append_assoc}
use Rattle.std.specs.Prelude.{Option, MatchOption, is_some, unwrap_or, option_map, decimal}
use Rattle.std.proofs.lemmas.Bool.{true≢false}
use Rattle.std.proofs.lemmas.Fmt.{decimal_digit}
use Rattle.crawl_kinds.specs.Address.{is_web}
use Rattle.url.specs.declared.host.Host.{Host}
use Rattle.url.specs.declared.host.Host.TheVariants.{Domain, Ipv4, Ipv6}
use Rattle.url.specs.declared.scheme.SchemeType.{SchemeType}
use Rattle.url.specs.declared.scheme.SchemeType.TheVariants.{SpecialNotFile}
use Rattle.url.specs.declared.slicing.Position.TheVariants.{BeforeScheme, BeforeUsername, AfterHost, AfterPort}
use Rattle.url.specs.Input.{lowercase, when}
use Rattle.url.specs.Scheme.{is_special}
use Rattle.url.specs.Host.{host_text, host_map, IsHostOf}
use Rattle.url.specs.Parts.{Parts, kind_of, host_or_empty, serialize, text_between, IsValid}
use Rattle.url.proofs.PiecesLemmas.{is_some-option_map}
use Rattle.url.proofs.ValidLemmas.{special_has_authority}
use Rattle.uri_spec.specs.Surt.{query_text}
use Rattle.uri_spec.specs.Key.{canonical, robots_key, name_without_www, tidy_query}
use Rattle.uri_spec.specs.SessionId.{path_without_ids, query_without_ids}
use Rattle.uri_form.specs.Members.{whole_query}
use Rattle.uri_form.proofs.UriLaws.{web_kind}

-- ---- what it is made of

pub robots_key-first : (class : List ℕ) → robots_key 0 class ≡ codes "robots0:" ++ class
robots_key-first class = ap (λ d. codes "robots" ++ (d ++ (codes ":" ++ class))) (decimal_digit 0 (omega arith))

host_kept : (host : Host (List ℕ)) → IsHostOf SpecialNotFile host → host_text (host_map name_without_www (host_map lowercase host)) ≡ host_text (host_map name_without_www host)
host_kept (Domain name) valid = ap name_without_www valid.0.lower
host_kept (Ipv4 address) valid = refl
host_kept (Ipv6 address) valid = refl

option_kept : (kind : SchemeType) → kind ≡ SpecialNotFile → (host : Option (Host (List ℕ))) → MatchOption host (is_special kind ≡ false) (IsHostOf kind) → host_text (unwrap_or (option_map (host_map name_without_www) (option_map (host_map lowercase) host)) (Domain [])) ≡ host_text (host_map name_without_www (unwrap_or host (Domain [])))
option_kept kind special None valid = absurd (true≢false (sym (ap is_special special) ∙ valid))
option_kept kind special (Some host) valid = host_kept host (rw special at valid)

query_tail : (query : Option (List ℕ)) → when (is_some query) (codes "?") ++ (unwrap_or query [] ++ []) ≡ query_text query
query_tail None = refl
query_tail (Some query) = ap (λ t. codes "?" ++ t) (append-nil query)

assemble : (scheme host colon port path tail : List ℕ) → scheme ++ (codes "://" ++ (host ++ (colon ++ (port ++ (path ++ tail))))) ≡ (((scheme ++ (codes "://" ++ [])) ++ host) ++ (colon ++ (port ++ []))) ++ path ++ tail
assemble scheme host colon port path tail = simp (append_assoc, append-nil)

module _ (url : Parts) (valid : IsValid url) (web : is_web url ≡ true) (none : url.fragment ≡ None) where
  authority : is_some url.host ≡ true
  authority = special_has_authority url valid.head (ap is_special (web_kind url.scheme web))

  kept_authority : is_some (option_map (host_map name_without_www) (option_map (host_map lowercase) url.host)) ≡ true
  kept_authority = is_some-option_map _ (option_map (host_map lowercase) url.host) ∙ is_some-option_map _ url.host ∙ authority

  pub serialize-canonical : serialize (canonical url) ≡ (((text_between url BeforeScheme BeforeUsername ++ host_text (host_map name_without_www (host_or_empty url))) ++ text_between url AfterHost AfterPort) ++ path_without_ids (lowercase url.path)) ++ whole_query url.query
  serialize-canonical =
      let lower : lowercase url.scheme ≡ url.scheme = valid.head.scheme.lower in
      let host = option_kept (kind_of url) (web_kind url.scheme web) url.host valid.head.host in
      let some = kept_authority in
      let had = authority in
      let query = tidy_query (option_map query_without_ids (option_map lowercase url.query)) in
      let tail : when (is_some query) (codes "?") ++ (unwrap_or query [] ++ (when (is_some url.fragment) (codes "#") ++ (unwrap_or url.fragment [] ++ []))) ≡ query_text query = rw none (query_tail query) in
      rw (lower, some, host, tail, had) (assemble url.scheme _ (when (is_some url.port) (codes ":")) (unwrap_or (option_map decimal url.port) []) (path_without_ids (lowercase url.path)) (query_text query))
