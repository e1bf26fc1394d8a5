-- Canonical keys: five rewrites of an address, each of which says which part is not there. Addresses of one key are one
-- page.
use Rattle.std.specs.Prelude.{ℕ, Bool, ◌&&◌, ◌==◌, nat_eq, List, [], ◌∷◌, ◌++◌, codes, bytes_eq, Option, Some, None, is_none, option_map, decimal, if◌then◌else◌}
use Rattle.std.specs.List.{join_with_byte, list_all, starts_with}
use Rattle.std.specs.Char.{is_ascii_digit}
use Rattle.url.specs.Ascii.{dot}
use Rattle.url.specs.Input.{is_empty, lowercase, trim_end}
use Rattle.url.specs.Host.{host_map}
use Rattle.url.specs.Parts.{Parts, serialize}
use Rattle.url.specs.Parser.{parse_url}
use Rattle.uri_spec.specs.SessionId.{ampersand, behind, path_without_ids, query_without_ids}
use Rattle.uri_spec.specs.Surt.{labels, class_of, of_parsed}

-- 1: ASCII letters are in lower case
abbrev pub lowered : Parts → Parts
lowered url = record url {
  scheme = lowercase url.scheme;
  host = option_map (host_map lowercase) url.host;
  path = lowercase url.path;
  query = option_map lowercase url.query;
}

-- 2: the user name and the password are not there
abbrev pub without_userinfo : Parts → Parts
without_userinfo url = record url { username = []; password = [] }

-- `www` and any digits
abbrev pub is_www : List ℕ → Bool
is_www label = starts_with nat_eq label (codes "www") && list_all is_ascii_digit (behind (codes "www") label)

-- a first label of this kind is not there, where a dot stands between those that follow
abbrev pub labels_without_www : List (List ℕ) → List (List ℕ)
labels_without_www (first ∷ second ∷ third ∷ more) =
    if is_www first then second ∷ third ∷ more else first ∷ second ∷ third ∷ more
labels_without_www few = few

abbrev pub name_without_www : List ℕ → List ℕ
name_without_www name = join_with_byte dot (labels_without_www (labels name))

-- 3: a first label `www`, `www2` and so on is not there
abbrev pub without_www : Parts → Parts
without_www url = record url { host = option_map (host_map name_without_www) url.host }

-- 4: session ids are not there
abbrev pub without_ids : Parts → Parts
without_ids url = record url { path = path_without_ids url.path; query = option_map query_without_ids url.query }

-- the query, unless it is empty
abbrev pub nonempty : List ℕ → Option (List ℕ)
nonempty query = if is_empty query then None else Some query

-- no `&` is at the end, and no query is empty
abbrev pub tidy_query : Option (List ℕ) → Option (List ℕ)
tidy_query None = None
tidy_query (Some query) = nonempty (trim_end (λ b. b == ampersand) query)

-- 5: each `&` at the query's end, and an empty query, are not there
abbrev pub without_empty_end : Parts → Parts
without_empty_end url = record url { query = tidy_query url.query }

-- the five rewrites, in their order
abbrev pub canonical : Parts → Parts
canonical url = without_empty_end (without_ids (without_www (without_userinfo (lowered url))))

-- the URL is that of a robots file: this path, and no query
abbrev pub is_robots : Parts → Bool
is_robots url = bytes_eq url.path (codes "/robots.txt") && is_none url.query

-- the key of the robots file of a class, after so many redirects
abbrev pub robots_key : ℕ → List ℕ → List ℕ
robots_key redirects class = codes "robots" ++ (decimal redirects ++ (codes ":" ++ class))

-- a robots file is known by its class, and any other page by its rewritten address
abbrev pub key_of : Parts → List ℕ
key_of url = if is_robots url then robots_key 0 (class_of url) else serialize (canonical url)

-- the key of an address
abbrev pub key_text : List ℕ → List ℕ
key_text text = of_parsed key_of (parse_url None text)
