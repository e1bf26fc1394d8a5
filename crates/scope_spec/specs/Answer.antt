-- What each kind of rule asks of a candidate: of its address, its SURT form and its discovery path.
--     begins_with_any prefixes surt      one of the prefixes is a beginning of the SURT form
--     is_transcluded max speculative path      the page needs it, as the path tells
--     has_run max segments      a segment that is not empty stands more than `max` times in a row
--     answer_of seeds uri surt path rule      the rule's answer, where it gives one
use Rattle.std.specs.Prelude.{ℕ, Bool, false, not, ◌&&◌, ◌||◌, ◌==◌, nat_eq, nat_lt, nat_le, List, [], ◌∷◌, length, bytes_eq, Option, Some, None, if◌then◌else◌}
use Rattle.std.specs.List.{list_any, starts_with, count_by, prefix_len, after_last}
use Rattle.scope_spec.specs.declared.rule.Decision.{Decision}
use Rattle.scope_spec.specs.declared.rule.Decision.TheVariants as decision
use Rattle.scope_spec.specs.declared.rule.Rule.{Rule}
use Rattle.scope_spec.specs.declared.rule.Rule.TheVariants as rule
use Rattle.scope_spec.specs.Pattern.{is_found}
use Rattle.scope_spec.specs.UriParts.{slash, path_of, scheme_of, segments_of}

-- a link, and a speculative embed, in a discovery path
abbrev pub link_letter : ℕ
link_letter = 76

abbrev pub speculative_letter : ℕ
speculative_letter = 88

-- one of the prefixes is a beginning of the text
abbrev pub begins_with_any : List (List ℕ) → List ℕ → Bool
begins_with_any prefixes text = list_any (λ prefix. starts_with nat_eq text prefix) prefixes

-- the letters behind the last link: the embeds, redirects and prerequisites on the way from a page to what it needs
abbrev pub embeds_of : List ℕ → List ℕ
embeds_of path = after_last (λ letter. letter == link_letter) path

-- there are 1 to `max` of them, and at most `speculative` are speculative
abbrev pub is_transcluded : ℕ → ℕ → List ℕ → Bool
is_transcluded max speculative path =
    let embeds = embeds_of path in
    nat_le 1 (length embeds) && nat_le (length embeds) max
    && nat_le (count_by (λ letter. letter == speculative_letter) embeds) speculative

-- a segment that is not empty has `max` equal ones right behind it
abbrev pub has_run : ℕ → List (List ℕ) → Bool
has_run max [] = false
has_run max (segment ∷ more) =
    (nat_lt 0 (length segment) && nat_le max (prefix_len (bytes_eq segment) more)) || has_run max more

-- an answer where the test holds, and else none
abbrev pub answer_if : Bool → Decision → Option Decision
answer_if holds answer = if holds then Some answer else None

-- what a rule answers for an address, its SURT form and its discovery path, by the prefixes that seeds make
abbrev pub answer_of : List (List ℕ) → List ℕ → List ℕ → List ℕ → Rule → Option Decision
answer_of seeds uri surt path rule.Accept = Some decision.Accept
answer_of seeds uri surt path rule.Reject = Some decision.Reject
answer_of seeds uri surt path (rule.Surts answer prefixes with_seeds) =
    answer_if (begins_with_any prefixes surt || (with_seeds && begins_with_any seeds surt)) answer
answer_of seeds uri surt path (rule.Hops max) = answer_if (nat_lt max (length path)) decision.Reject
answer_of seeds uri surt path (rule.Transclusion max speculative) =
    answer_if (is_transcluded max speculative path) decision.Accept
answer_of seeds uri surt path (rule.Regex answer patterns) =
    answer_if (list_any (λ pattern. is_found pattern uri) patterns) answer
answer_of seeds uri surt path (rule.Pathological max) = answer_if (has_run max (segments_of uri)) decision.Reject
answer_of seeds uri surt path (rule.Segments max) =
    answer_if (nat_lt max (count_by (λ b. b == slash) (path_of uri))) decision.Reject
answer_of seeds uri surt path (rule.Schemes names) =
    answer_if (not (list_any (λ name. bytes_eq name (scheme_of uri)) names)) decision.Reject
