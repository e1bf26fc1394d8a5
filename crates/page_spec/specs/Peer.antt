-- Where a request goes: to the server of its address, or to the proxy of the settings.
--     peer_host proxy uri, peer_port proxy uri      the host and the port to connect to
--     is_supported settings uri      whether the address can be asked for at all
use Rattle.std.specs.Prelude.{ℕ, Bool, ◌&&◌, ◌||◌, ◌==◌, nat_le, List, bytes_eq, codes, Option, Some, None, is_some, if◌then◌else◌}
use Rattle.std.specs.List.{before_first, after_first}
use Rattle.std.specs.Str.Parse.{digits_value}
use Rattle.crawl_kinds.specs.declared.settings.Settings.{Settings}
use Rattle.url.specs.Ascii.{colon}
use Rattle.page_spec.specs.Fields.{is_count}
use Rattle.page_spec.specs.Request.{host_in, port_in, scheme_in}

-- the host of a proxy HOST:PORT: what stands before its `:`
abbrev pub proxy_host : List ℕ → List ℕ
proxy_host proxy = before_first (λ b. b == colon) proxy

-- a port in decimal digits, and 80 where none stands there
abbrev pub port_number : List ℕ → ℕ
port_number text = if is_count text && nat_le (digits_value 10 text) 65535 then digits_value 10 text else 80

-- the port of a proxy HOST:PORT: the number behind its `:`
abbrev pub proxy_port : List ℕ → ℕ
proxy_port proxy = port_number (after_first (λ b. b == colon) proxy)

-- the host to connect to for an address: the proxy's, where there is one
abbrev pub peer_host : Option (List ℕ) → List ℕ → List ℕ
peer_host None uri = host_in uri
peer_host (Some proxy) uri = proxy_host proxy

-- and the port
abbrev pub peer_port : Option (List ℕ) → List ℕ → ℕ
peer_port None uri = port_in uri
peer_port (Some proxy) uri = proxy_port proxy

-- an address of http, and any address where there is a proxy
abbrev pub is_supported : Settings → List ℕ → Bool
is_supported settings uri = is_some settings.proxy || bytes_eq (scheme_in uri) (codes "http")
