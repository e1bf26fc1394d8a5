-- The pages of a site, and what is answered to a request.
--     listens site host port      whether the site has a page at this port of a host
--     target_of request      the target of a request
--     answer site e, left_of site e      the bytes that answer an exchange, and those that were not given yet
--     left site exchanges      what the last exchange was not given yet
use Rattle.std.specs.Prelude.{ℕ, Bool, ◌&&◌, ◌==◌, nat_eq, List, [], ◌∷◌, length, drop, codes, bytes_eq, Option, Some, None}
use Rattle.std.specs.List.{find, list_any, before_first, after_first}
use Rattle.crawl_traits.specs.declared.link.Exchange.{Exchange}
use Rattle.crawl_memory.specs.declared.page.Page.{Page}

-- a page of this port of a host
abbrev pub lies_at : List ℕ → ℕ → Page → Bool
lies_at host port page = bytes_eq page.host host && nat_eq page.port port

-- a page of this target too
abbrev pub fits : List ℕ → ℕ → List ℕ → Page → Bool
fits host port target page = lies_at host port page && bytes_eq page.target target

-- some page is of this port of a host
abbrev pub listens : List Page → List ℕ → ℕ → Bool
listens site host port = list_any (λ page. lies_at host port page) site

-- the octet between the parts of a request line (RFC 9112 §3)
abbrev pub is_space : ℕ → Bool
is_space b = b == 32

-- the text between the first space and the next (RFC 9112 §3)
abbrev pub target_of : List ℕ → List ℕ
target_of request = before_first is_space (after_first is_space request)

-- a status line, the length of an empty body, and the empty line (RFC 9112 §2.1, RFC 9110 §15.5.5)
abbrev pub not_found : List ℕ
not_found = codes "HTTP/1.1 404 Not Found\r\nContent-Length: 0\r\n\r\n"

-- the bytes of a page, or that there is none
abbrev pub page_bytes : Option Page → List ℕ
page_bytes (Some page) = page.bytes
page_bytes None = not_found

-- the bytes of the first page that fits the request that was taken
abbrev pub answer : List Page → Exchange → List ℕ
answer site e = page_bytes (find (λ page. fits e.host e.port (target_of e.taken) page) site)

-- what follows as many bytes of the answer as were given
abbrev pub left_of : List Page → Exchange → List ℕ
left_of site e = drop (length e.given) (answer site e)

-- what the last exchange was not given yet
abbrev pub left : List Page → List Exchange → List ℕ
left site [] = []
left site (e ∷ []) = left_of site e
left site (e ∷ f ∷ more) = left site (f ∷ more)
