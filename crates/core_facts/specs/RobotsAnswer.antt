-- What a robots file says of an address, computed.
--     lies_on pattern path, matches pattern path      whether the pattern lies on the path, matches it
--     allows_path rules path      whether the rules allow the path
--     allows_uri agent text uri      whether the file of this text allows the address to the agent
use Rattle.std.specs.Prelude.{ℕ, Bool, true, false, not, ◌&&◌, ◌||◌, ◌==◌, nat_le, List, [], ◌∷◌, length, bytes_eq, if◌then◌else◌}
use Rattle.std.specs.List.{list_any, list_all}
use Rattle.robots_spec.specs.declared.Rule.{Rule}
use Rattle.robots_spec.specs.Lines.{is_star}
use Rattle.robots_spec.specs.Groups.{agent_rules}
use Rattle.robots_spec.specs.Patterns.{is_dollar, robots_path_of}
use Rattle.robots_spec.specs.Verdict.{robots_file}

-- what is left behind some run of octets passes
abbrev pub some_rest : (List ℕ → Bool) → List ℕ → Bool
some_rest p [] = p []
some_rest p (x ∷ xs) = p (x ∷ xs) || some_rest p xs

-- the path begins with the octet, and what follows passes
abbrev pub is_followed : ℕ → (List ℕ → Bool) → List ℕ → Bool
is_followed b p [] = false
is_followed b p (x ∷ xs) = x == b && p xs

-- the octets of the pattern lie on those of the path from its front on (RFC 9309 section 2.2.3)
abbrev pub lies_on : List ℕ → List ℕ → Bool
lies_on [] path = true
lies_on (b ∷ pattern) path =
    if is_star b
    then some_rest (lies_on pattern) path
    else if is_dollar b && length pattern == 0
    then length path == 0
    else is_followed b (lies_on pattern) path

-- an empty pattern matches nothing
abbrev pub matches : List ℕ → List ℕ → Bool
matches pattern path = not (length pattern == 0) && lies_on pattern path

-- the rule matches, and no rule that matches has a pattern of more octets
abbrev pub is_longest : List Rule → List ℕ → Rule → Bool
is_longest rules path rule =
    matches rule.pattern path
    && list_all (λ other. not (matches other.pattern path) || nat_le (length other.pattern) (length rule.pattern)) rules

-- no rule matches, or among the longest that match one allows (section 2.2.2)
abbrev pub rules_allow : List Rule → List ℕ → Bool
rules_allow rules path =
    list_all (λ rule. not (matches rule.pattern path)) rules
    || list_any (λ rule. is_longest rules path rule && rule.allows) rules

-- the robots file is allowed, and what the rules allow
abbrev pub allows_path : List Rule → List ℕ → Bool
allows_path rules path = bytes_eq path robots_file || rules_allow rules path

-- the file of this text allows the agent to ask for the address
abbrev pub allows_uri : List ℕ → List ℕ → List ℕ → Bool
allows_uri agent text uri = allows_path (agent_rules text agent).rules (robots_path_of uri)
