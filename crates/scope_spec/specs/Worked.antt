-- Worked examples of the definitions.
use Rattle.std.specs.Prelude.{◌≡◌, ℕ, Bool, true, false, List, [], ◌∷◌, codes, Option, Some, None}
use Rattle.std.specs.List.{repeat}
use Rattle.scope_spec.specs.declared.rule.Decision.{Decision}
use Rattle.scope_spec.specs.declared.rule.Decision.TheVariants as decided
use Rattle.scope_spec.specs.declared.rule.Rule.{Rule}
use Rattle.scope_spec.specs.declared.rule.Rule.TheVariants as rule
use Rattle.scope_spec.specs.Answer.{answer_of, has_run, is_transcluded}
use Rattle.scope_spec.specs.Decision.{answers, decision}
use Rattle.scope_spec.specs.UriParts.{path_of, scheme_of, segments_of}

-- all is rejected but a domain, up to 20 hops away
abbrev surts : Rule
surts = rule.Surts decided.Accept (codes "http://(com,example," ∷ []) false

abbrev rules : List Rule
rules = rule.Reject ∷ surts ∷ rule.Hops 20 ∷ []

abbrev inside : List ℕ
inside = codes "http://a.example.com/"

abbrev inside_surt : List ℕ
inside_surt = codes "http://(com,example,a,)/"

abbrev outside : List ℕ
outside = codes "http://example.org/"

abbrev outside_surt : List ℕ
outside_surt = codes "http://(org,example,)/"

-- so many links
abbrev links : ℕ → List ℕ
links n = repeat n (codes "L")

-- what a rule answers for an address
abbrev of_address : Rule → List ℕ → Option Decision
of_address asked uri = answer_of [] uri [] [] asked

-- whether a run of more than `max` equal segments stands in an address
abbrev repeats : ℕ → List ℕ → Bool
repeats max uri = has_run max (segments_of uri)

pub record AreWorked : Type 0 where
  pub twenty : answers rules [] inside inside_surt (links 20) ≡ Some decided.Reject ∷ Some decided.Accept ∷ None ∷ []
  pub twenty_decided : decision rules [] inside inside_surt (links 20) ≡ decided.Accept
  pub more : answers rules [] inside inside_surt (links 21) ≡ Some decided.Reject ∷ Some decided.Accept ∷ Some decided.Reject ∷ []
  pub more_decided : decision rules [] inside inside_surt (links 21) ≡ decided.Reject
  pub other : answers rules [] outside outside_surt [] ≡ Some decided.Reject ∷ None ∷ None ∷ []
  pub other_decided : decision rules [] outside outside_surt [] ≡ decided.Reject
  pub none : decision (surts ∷ []) [] outside outside_surt [] ≡ decided.Reject
  pub no_rules : decision [] [] outside outside_surt [] ≡ decided.Reject
  pub by_seeds : decision (rule.Surts decided.Accept [] true ∷ []) (codes "http://(org," ∷ []) outside outside_surt [] ≡ decided.Accept
  pub without_seeds : decision (rule.Surts decided.Accept [] false ∷ []) (codes "http://(org," ∷ []) outside outside_surt [] ≡ decided.Reject
  pub scheme : scheme_of (codes "https://a.test:81/b") ≡ codes "https"
  pub path : path_of (codes "http://u:p@a.test:81/b/c?d/e") ≡ codes "/b/c"
  pub bracketed : path_of (codes "http://[::1]:81/?/") ≡ codes "/"
  pub schemes : of_address (rule.Schemes (codes "http" ∷ [])) (codes "https://a.test/") ≡ Some decided.Reject
  pub listed : of_address (rule.Schemes (codes "http" ∷ codes "https" ∷ [])) (codes "https://a.test/") ≡ None
  pub slashes : of_address (rule.Segments 2) (codes "http://a.test/b/c/d?e/f") ≡ Some decided.Reject
  pub few_slashes : of_address (rule.Segments 3) (codes "http://a.test/b/c/d?e/f") ≡ None
  pub run : repeats 2 (codes "http://a.test/b/c/c/c") ≡ true
  pub short_run : repeats 2 (codes "http://a.test/c/c/b/c") ≡ false
  pub empty_run : repeats 2 (codes "http://a.test/////c") ≡ false
  pub no_run_allowed : repeats 0 (codes "http://a.test//c") ≡ true
  pub no_segment : repeats 0 (codes "http://a.test/") ≡ false
  pub embed : is_transcluded 2 1 (codes "LLRE") ≡ true
  pub too_many : is_transcluded 2 1 (codes "LERE") ≡ false
  pub link : is_transcluded 2 1 (codes "EEL") ≡ false
  pub seed : is_transcluded 2 1 [] ≡ false
  pub no_link : is_transcluded 2 1 (codes "RX") ≡ true
  pub speculative : is_transcluded 2 1 (codes "LXX") ≡ false
