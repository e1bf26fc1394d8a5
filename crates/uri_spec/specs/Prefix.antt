-- Prefixes of SURT texts, made from the texts of seeds.
use Rattle.std.specs.Prelude.{ℕ, Bool, true, false, ◌&&◌, ◌==◌, nat_eq, List, [], ◌∷◌, ◌++◌, drop, codes, Option, Some, None, is_some, is_none, unwrap_or, if◌then◌else◌}
use Rattle.std.specs.List.{list_any, starts_with, before_last}
use Rattle.url.specs.declared.host.Host.{Host}
use Rattle.url.specs.declared.host.Host.TheVariants.{Domain, Ipv4, Ipv6}
use Rattle.url.specs.Ascii.{slash}
use Rattle.url.specs.Parts.{Parts, host_or_empty}
use Rattle.uri_spec.specs.Surt.{authority_of}

-- what follows the first `://`
abbrev pub after_marks : List ℕ → Option (List ℕ)
after_marks [] = None
after_marks (b ∷ bytes) =
    if starts_with nat_eq (b ∷ bytes) (codes "://") then Some (drop 3 (b ∷ bytes)) else after_marks bytes

-- a seed without `://` is read with `http://` before it
abbrev pub seed_text : List ℕ → List ℕ
seed_text text = if is_some (after_marks text) then text else codes "http://" ++ text

-- a `/` follows the `://` of a seed
abbrev pub names_a_path : List ℕ → Bool
names_a_path text = list_any (λ b. b == slash) (unwrap_or (after_marks (seed_text text)) [])

-- the host is a name, and no address
abbrev pub is_name : Host (List ℕ) → Bool
is_name (Domain name) = true
is_name (Ipv4 address) = false
is_name (Ipv6 address) = false

-- what follows the authority: of a seed with a path, the path up to its last `/`; of one without, nothing where the
-- host is a name and has no port, so that the domains below it are meant too, and else the end of the authority
abbrev pub prefix_end : Bool → Parts → List ℕ
prefix_end true url = codes ")" ++ (before_last (λ b. b == slash) url.path ++ codes "/")
prefix_end false url = if is_name (host_or_empty url) && is_none url.port then [] else codes ")"

-- the beginning of SURT forms that a seed makes, by whether it names a path and by its URL
abbrev pub prefix_of : Bool → Parts → List ℕ
prefix_of named url = codes "http://(" ++ (authority_of url ++ prefix_end named url)
