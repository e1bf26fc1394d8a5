-- Addresses in SURT form, the host's labels in reverse order so that texts sort by domain, and classes of addresses.
use Rattle.std.specs.Prelude.{ℕ, Bool, ◌==◌, List, [], ◌++◌, reverse, codes, decimal, bytes_eq, Option, Some, None, Ok, Err, flat_map, if◌then◌else◌}
use Rattle.std.specs.List.{slice_split}
use Rattle.url.specs.declared.host.Host.{Host}
use Rattle.url.specs.declared.host.Host.TheVariants.{Domain, Ipv4, Ipv6}
use Rattle.url.specs.Ascii.{dot}
use Rattle.url.specs.Host.{host_text}
use Rattle.url.specs.Parts.{Parts, host_or_empty, serialize}
use Rattle.url.specs.Parser.{Parsed, parse_url}

-- the labels of a host name: its parts between dots
abbrev pub labels : List ℕ → List (List ℕ)
labels name = slice_split (λ b. b == dot) name

-- the labels in reverse order, each followed by a comma
abbrev pub reversed_labels : List ℕ → List ℕ
reversed_labels name = flat_map (λ label. label ++ codes ",") (reverse (labels name))

-- a name by its labels in reverse order; an address as it stands, an IPv6 one between brackets
abbrev pub surt_host : Host (List ℕ) → List ℕ
surt_host (Domain name) = reversed_labels name
surt_host (Ipv4 address) = host_text (Ipv4 address)
surt_host (Ipv6 address) = host_text (Ipv6 address)

-- `:` and the port, where one is written
abbrev pub port_text : Option ℕ → List ℕ
port_text None = []
port_text (Some port) = codes ":" ++ decimal port

-- `?` and the query, where there is one
abbrev pub query_text : Option (List ℕ) → List ℕ
query_text None = []
query_text (Some query) = codes "?" ++ query

-- the host and the port; user name and password are not there
abbrev pub authority_of : Parts → List ℕ
authority_of url = surt_host (host_or_empty url) ++ port_text url.port

-- `http://(`, the authority, `)`, the path and the query; https is written http
abbrev pub surt_of : Parts → List ℕ
surt_of url = codes "http://(" ++ (authority_of url ++ (codes ")" ++ (url.path ++ query_text url.query)))

-- the scheme is https
abbrev pub is_https : Parts → Bool
is_https url = bytes_eq url.scheme (codes "https")

-- the authority, marked for https
abbrev pub class_of : Parts → List ℕ
class_of url = authority_of url ++ (if is_https url then codes "#https" else [])

-- what a function of URLs gives for a text that is one, and nothing for another
abbrev pub of_parsed : (Parts → List ℕ) → Parsed Parts → List ℕ
of_parsed read (Ok url) = read url
of_parsed read (Err fault) = []

-- the SURT form of an address
abbrev pub surt_text : List ℕ → List ℕ
surt_text text = of_parsed surt_of (parse_url None text)

-- the class of an address
abbrev pub class_text : List ℕ → List ℕ
class_text text = of_parsed class_of (parse_url None text)

-- the URL of the robots file of a URL's host
abbrev pub with_robots_path : Parts → Parts
with_robots_path url = record url { path = codes "/robots.txt"; query = None }

-- the address of the robots file of an address's host
abbrev pub robots_text : List ℕ → List ℕ
robots_text text = of_parsed (λ url. serialize (with_robots_path url)) (parse_url None text)
