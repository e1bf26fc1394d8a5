-- Each byte of a web URL's text is visible ASCII.
use Rattle.std.proofs.Common.{◌≡◌, ℕ, Bool, true, false, cond, not, ◌&&◌, ◌==◌, ltb, leb, List, [], ◌∷◌, Some, None, All, sym, refl, subst, ⊎_elim, arith}
use Rattle.std.specs.Prelude.{Option, unwrap_or, option_map, decimal, codes}
use Rattle.std.specs.Int.{IsInRange}
use Rattle.std.proofs.lemmas.Bool.Decides.{nat_tests}
use Rattle.std.proofs.lemmas.Fmt.{digits_decimal}
use Rattle.std.proofs.lemmas.Str.Parse.{numerals_by_value, tells_by_index}
use Rattle.std.proofs.lemmas.List.Elements.{All-nil, All-cons, All-weaker, All-from_get_or}
use Rattle.percent_encoding.specs.declared.ascii_set.TheConstants.{CONTROLS}
use Rattle.percent_encoding.specs.Percent.{IsKept}
use Rattle.url.specs.declared.sets.TheConstants.{FRAGMENT, PATH, USERINFO, SPECIAL_QUERY, FORBIDDEN_HOST, FORBIDDEN_DOMAIN}
use Rattle.url.specs.declared.host.Host.{Host}
use Rattle.url.specs.declared.host.Host.TheVariants.{Domain}
use Rattle.url.specs.declared.scheme.SchemeType.{SchemeType}
use Rattle.url.specs.declared.scheme.SchemeType.TheVariants.{SpecialNotFile}
use Rattle.crawl_kinds.specs.Text.{is_visible}
use Rattle.url.specs.Input.{when}
use Rattle.url.specs.Scheme.{is_scheme_byte}
use Rattle.url.specs.Host.{host_text, IsHostOf}
use Rattle.url.specs.Parts.{Parts, kind_of, host_or_empty, query_set, pieces, serialize, IsPortOf, IsValid}
use Rattle.url.proofs.InputLemmas.{Passes}
use Rattle.url.proofs.SetLemmas.{passes_from_kept}
use Rattle.url.proofs.SchemeLemmas.{scheme_bytes}
use Rattle.url.proofs.HostLemmas.{All-host_text}
use Rattle.url.proofs.PiecesLemmas.{option_cases}
use Rattle.url.proofs.TextLemmas.{All-concat, All_one, All_kept, All_part}
use Rattle.url.proofs.ValidLemmas.{segment_list_kept, hierarchical, special_has_authority, base_from_authority}

abbrev pub V : ℕ → Type 0
V = Passes is_visible

marks : (test : Bool) → All V (cond test (codes "://") (codes ":"))
marks true = All-cons V 58 (47 ∷ 47 ∷ []) refl (All-cons V 47 (47 ∷ []) refl (All-cons V 47 [] refl (All-nil V)))
marks false = All-cons V 58 [] refl (All-nil V)

guard : (test : Bool) → All V (when test (codes "/."))
guard true = All-cons V 47 (46 ∷ []) refl (All-cons V 46 [] refl (All-nil V))
guard false = All-nil V

host_visible : (kind : SchemeType) (host : Host (List ℕ)) → IsHostOf kind host → All V (host_text host)
host_visible kind host =
    All-host_text V kind host (passes_from_kept FORBIDDEN_DOMAIN is_visible refl)
    (λ b allowed shown.
    let other = passes_from_kept FORBIDDEN_HOST (λ x. not (x == 32)) refl b allowed in
    let between = passes_from_kept CONTROLS (λ x. leb 32 x && ltb x 127) refl b shown in
    grind (arith, nat_tests))
    (λ b digit. grind (arith, nat_tests)) (λ b hex. grind (arith, nat_tests)) refl refl

pub own_host : (url : Parts) → IsValid url → All V (host_text (host_or_empty url))
own_host url valid =
    let P = λ (o : Option (Host (List ℕ))). All V (host_text (unwrap_or o (Domain []))) in
    ⊎_elim (λ none. subst P (sym none) (All-nil V)) (λ some. subst P (sym some.1) (host_visible (kind_of url) some.0 (rw some.1 at valid.head.host))) (option_cases url.host)

pub port_visible : (scheme : List ℕ) (port : Option ℕ) → IsPortOf scheme port → All V (unwrap_or (option_map decimal port) [])
port_visible scheme None valid = All-nil V
port_visible scheme (Some n) valid =
    let digit : (b : ℕ) → IsInRange 48 57 b → V b = λ b d. grind (arith, nat_tests) in
    All-from_get_or V (decimal n) 0 (λ i inside. digit _ (digits_decimal (numerals_by_value _ tells_by_index) n (omega (arith, valid.0)) i inside))

pub query_kept : (kind : SchemeType) → kind ≡ SpecialNotFile → (b : ℕ) → IsKept (query_set kind) b → V b
query_kept kind special b kept = passes_from_kept SPECIAL_QUERY is_visible refl b (rw special at kept)

pub path_visible : (url : Parts) → IsValid url → kind_of url ≡ SpecialNotFile → All V url.path
path_visible url valid kind =
    let authority = special_has_authority url valid.head (rw kind refl) in
    All_kept is_visible PATH refl url.path (segment_list_kept _ url.path (hierarchical url valid.path (base_from_authority url authority)).0)

pub visible_text : (url : Parts) → IsValid url → kind_of url ≡ SpecialNotFile → All V (serialize url)
visible_text url valid kind =
    All-concat V (pieces url) (All-weaker (Passes is_scheme_byte) V (λ b passes. grind (arith, nat_tests)) url.scheme (scheme_bytes url.scheme valid.head.scheme), (marks _, (All_kept is_visible USERINFO refl url.username valid.head.username, (All_one V _ 58 refl, (All_kept is_visible USERINFO refl url.password valid.head.password, (All_one V _ 64 refl, (own_host url valid, (All_one V _ 58 refl, (port_visible url.scheme url.port valid.head.port, (guard _, (path_visible url valid kind, (All_one V _ 63 refl, (All_part V (query_set (kind_of url)) url.query (query_kept (kind_of url) kind) valid.query, (All_one V _ 35 refl, (All_part V FRAGMENT url.fragment (passes_from_kept FRAGMENT is_visible refl) valid.fragment, tt)))))))))))))))
