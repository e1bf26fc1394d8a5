-- The request for an address (RFC 9112 sections 2 and 3), and the server of the address.
use Rattle.std.specs.Prelude.{ℕ, List, [], ◌∷◌, ◌++◌, codes, Option, Some, None, Ok, Err, unwrap_or, flat_map}
use Rattle.crawl_kinds.specs.Address.{without_fragment}
use Rattle.crawl_kinds.specs.declared.settings.Settings.{Settings}
use Rattle.url.specs.Host.{host_text}
use Rattle.url.specs.Parts.{Parts, host_or_empty, serialize}
use Rattle.url.specs.Parser.{parse_url}
use Rattle.uri_spec.specs.Key.{without_userinfo}
use Rattle.uri_spec.specs.Surt.{of_parsed, port_text, query_text}

-- how the crawler names itself: its name and the address of who runs it
abbrev pub agent_line : Settings → List ℕ
agent_line settings =
    codes "Mozilla/5.0 (compatible; " ++ (settings.agent ++ (codes "/1 +" ++ (settings.contact ++ codes ")")))

-- the host of a URL, as it is written: an IPv6 address stands between brackets
abbrev pub host_of : Parts → List ℕ
host_of url = host_text (host_or_empty url)

-- the port to connect to, 80 where none is written
abbrev pub port_of : Parts → ℕ
port_of url = unwrap_or url.port 80

-- what is asked for: path and query; of a proxy the whole URL, without user name, password and fragment
abbrev pub target_of : Option (List ℕ) → Parts → List ℕ
target_of None url = url.path ++ query_text url.query
target_of (Some proxy) url = serialize (without_fragment (without_userinfo url))

-- a line ends in CR and LF
abbrev pub line : List ℕ → List ℕ
line text = text ++ (13 ∷ 10 ∷ [])

-- the lines of the request, the last of them empty
abbrev pub request_lines : Settings → Parts → List (List ℕ)
request_lines settings url =
    (codes "GET " ++ (target_of settings.proxy url ++ codes " HTTP/1.0"))
    ∷ (codes "Host: " ++ (host_of url ++ port_text url.port))
    ∷ (codes "User-Agent: " ++ agent_line settings)
    ∷ codes "Accept: */*"
    ∷ codes "Accept-Encoding: identity"
    ∷ codes "Connection: close"
    ∷ []
    ∷ []

-- the request for a URL
abbrev pub request_of : Settings → Parts → List ℕ
request_of settings url = flat_map line (request_lines settings url)

-- the request for an address
abbrev pub request_text : List ℕ → Settings → List ℕ
request_text text settings = of_parsed (request_of settings) (parse_url None text)

-- the host of an address
abbrev pub host_in : List ℕ → List ℕ
host_in text = of_parsed host_of (parse_url None text)

-- the port of an address
abbrev pub port_in : List ℕ → ℕ
port_in text = elim (parse_url None text) [ Ok url ↦ port_of url | Err fault ↦ 80 ]

-- the scheme of an address
abbrev pub scheme_in : List ℕ → List ℕ
scheme_in text = of_parsed (λ url. url.scheme) (parse_url None text)
