-- Worked examples of the definitions.
use Rattle.std.specs.Prelude.{◌≡◌, ℕ, true, false, List, [], ◌∷◌, ◌++◌, codes, Option, Some, None}
use Rattle.crawl_kinds.specs.declared.settings.Settings.{Settings}
use Rattle.httparse.specs.Grammar.{ResponseHead, crlf}
use Rattle.page_spec.specs.Fields.{Pair, announced, media_of}
use Rattle.page_spec.specs.Peer.{is_supported, peer_host, peer_port}
use Rattle.page_spec.specs.Request.{host_in, line, port_in, request_text, scheme_in}
use Rattle.page_spec.specs.Response.{IsWholeOf, fields_of}

-- the settings of a job without name, for a proxy or none
abbrev pub settings_of : Option (List ℕ) → Settings
settings_of proxy = record {
  name = codes "none";
  agent = codes "none";
  contact = codes "http://localhost/";
  proxy = proxy;
  workers = 1;
  delay_factor = 0;
  min_delay_ms = 0;
  max_delay_ms = 0;
  max_crawl_delay_s = 0;
  max_tries = 1;
  retry_delay_s = 0;
  timeout_ms = 20000;
  host_budget = 0;
  max_pages = 0;
  max_bytes = 0;
  max_seconds = 0;
  max_keys = 1000;
  max_response_bytes = 8388608;
  warc_max_bytes = 1000000000;
  checkpoint_finishes = 1000;
}

-- a request by its first two lines, with these settings
abbrev pub asking : List ℕ → List ℕ → List ℕ
asking first second =
    line first ++ (line second
    ++ (line (codes "User-Agent: Mozilla/5.0 (compatible; none/1 +http://localhost/)")
    ++ (line (codes "Accept: */*")
    ++ (line (codes "Accept-Encoding: identity")
    ++ (line (codes "Connection: close")
    ++ line [])))))

-- a request to the server, and one to a proxy
abbrev pub direct : List ℕ → List ℕ
direct text = request_text text (settings_of None)

abbrev pub proxied : List ℕ → List ℕ
proxied text = request_text text (settings_of (Some (codes "p.test:3128")))

pub record AreRequests : Type 0 where
  pub plain : direct (codes "http://a.test/") ≡ asking (codes "GET / HTTP/1.0") (codes "Host: a.test")
  pub query : direct (codes "http://a.test/b?c=d&e") ≡ asking (codes "GET /b?c=d&e HTTP/1.0") (codes "Host: a.test")
  pub empty_query : direct (codes "http://a.test/b?") ≡ asking (codes "GET /b? HTTP/1.0") (codes "Host: a.test")
  pub port : direct (codes "http://a.test:81/") ≡ asking (codes "GET / HTTP/1.0") (codes "Host: a.test:81")
  pub user : direct (codes "http://u:p@a.test/x") ≡ asking (codes "GET /x HTTP/1.0") (codes "Host: a.test")
  pub address : direct (codes "http://[::1]:82/") ≡ asking (codes "GET / HTTP/1.0") (codes "Host: [::1]:82")
  pub proxy : proxied (codes "https://u:p@a.test:81/b?c") ≡ asking (codes "GET https://a.test:81/b?c HTTP/1.0") (codes "Host: a.test:81")
  pub host : host_in (codes "http://u@[::1]:82/") ≡ codes "[::1]"
  pub port_number : port_in (codes "http://u@[::1]:82/") ≡ 82
  pub port_default : port_in (codes "http://a.test/") ≡ 80
  pub scheme : scheme_in (codes "HTTP://a.test/") ≡ codes "http"

-- an address of https, asked for through a proxy or without one
abbrev secure : List ℕ
secure = codes "https://a.test:81/"

pub record ArePeers : Type 0 where
  pub own_host : peer_host None (codes "http://a.test/") ≡ codes "a.test"
  pub own_port : peer_port None (codes "http://a.test/") ≡ 80
  pub proxy_host : peer_host (Some (codes "p.test:3128")) secure ≡ codes "p.test"
  pub proxy_port : peer_port (Some (codes "p.test:3128")) secure ≡ 3128
  pub no_colon : peer_host (Some (codes "p.test")) secure ≡ codes "p.test"
  pub no_port : peer_port (Some (codes "p.test")) secure ≡ 80
  pub no_number : peer_port (Some (codes "p.test:+1")) secure ≡ 80
  pub greatest : peer_port (Some (codes "p.test:65535")) secure ≡ 65535
  pub too_great : peer_port (Some (codes "p.test:65536")) secure ≡ 80
  pub plain : is_supported (settings_of None) (codes "http://a.test/") ≡ true
  pub alone : is_supported (settings_of None) secure ≡ false
  pub through : is_supported (settings_of (Some (codes "p.test:3128"))) secure ≡ true

-- the head of a response `200 OK` with one field
abbrev pub head_with : List ℕ → List ℕ → ResponseHead
head_with name raw = record {
  blank = [];
  minor = 1;
  digits = codes "200";
  reason = Some (codes "OK");
  line_end = crlf;
  fields = record { name = name; raw = raw; end = crlf } ∷ [];
  last = crlf;
}

-- such a response with a body
abbrev pub response_with : List ℕ → List ℕ → List ℕ
response_with field body = line (codes "HTTP/1.1 200 OK") ++ (line field ++ (line [] ++ body))

-- what a head with one field says of its media type
abbrev media : List ℕ → List ℕ
media raw = media_of (fields_of (head_with (codes "Content-TYPE") raw))

-- a Content-Length field
abbrev counted : List ℕ → Pair
counted text = (codes "CONTENT-length", text)

pub record AreResponses : Type 0 where
  pub whole : IsWholeOf 40 (response_with (codes "Content-Length: 2") (codes "hi")) (head_with (codes "Content-Length") (codes " 2")) (codes "hi")
  pub one : announced 200 (counted (codes "0012") ∷ []) ≡ Some 12
  pub two : announced 200 (counted (codes "2") ∷ counted (codes "2") ∷ []) ≡ None
  pub coded : announced 200 (counted (codes "2") ∷ (codes "Transfer-Encoding", []) ∷ []) ≡ None
  pub signed : announced 200 (counted (codes "+2") ∷ []) ≡ None
  pub long : announced 200 (counted (codes "0000000000000000002") ∷ []) ≡ None
  pub missing : announced 200 ((codes "Content", codes "2") ∷ []) ≡ None
  pub before : announced 199 (counted (codes "2") ∷ []) ≡ None
  pub no_content : announced 204 (counted (codes "0") ∷ []) ≡ None
  pub not_modified : announced 304 (counted (codes "2") ∷ []) ≡ None
  pub not_found : announced 404 (counted (codes "2") ∷ []) ≡ Some 2
  pub last : announced 599 (counted (codes "2") ∷ []) ≡ Some 2
  pub behind : announced 600 (counted (codes "2") ∷ []) ≡ None
  pub media_plain : media (codes " text/html") ≡ codes "text/html"
  pub media_param : media (codes " Text/HTML \t; charset=utf-8 ") ≡ codes "text/html"
  pub media_bad : media (codes " text") ≡ codes "unknown"
  pub media_empty : media [] ≡ codes "unknown"
  pub media_blank : media (codes "text/ html") ≡ codes "unknown"
  pub media_slashes : media (codes "text/html/x") ≡ codes "unknown"
  pub media_none : media_of (fields_of (head_with (codes "Type") (codes "text/html"))) ≡ codes "no-type"
