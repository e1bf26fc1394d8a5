-- What the reading of a text as an address answers.
use Rattle.std.specs.Prelude.{◌≡◌, ◌⊎◌, ℕ, List, length, nat_lt, Option, Some, None, Result, Ok, Err, if◌then◌else◌}
use Rattle.crawl_kinds.specs.Address.{is_web, without_fragment, most_uri, most_head}
use Rattle.url.specs.declared.error.ParseError.{ParseError}
use Rattle.url.specs.declared.error.ParseError.TheVariants.{OutOfMemory, Overflow}
use Rattle.url.specs.declared.slicing.Position.TheVariants.{BeforePath}
use Rattle.url.specs.Parts.{Parts, serialize, offset}
use Rattle.url.specs.Parser.{Parsed, and_then, parse_url}
use Rattle.uri_form.specs.declared.fault.UriFault.{UriFault}
use Rattle.uri_form.specs.declared.fault.UriFault.TheVariants.{TooLong, NotAUri, OtherScheme, NoMemory}

-- a text of more bytes is not read
abbrev pub most_text : ℕ
most_text = 65536

-- what a refusal of `url` means
abbrev pub fault_of_parse : ParseError → UriFault
fault_of_parse OutOfMemory = NoMemory
fault_of_parse Overflow = NoMemory
fault_of_parse other = NotAUri

-- why a URL is no address: the first that holds
abbrev pub fault_of_url : Parts → Option UriFault
fault_of_url url =
    let len = length (serialize (without_fragment url)) in
    let head = offset url BeforePath in
    if nat_lt most_uri len then Some (TooLong len)
    else (if nat_lt most_head head then Some (TooLong head)
    else (if is_web url then None else Some OtherScheme))

-- a fault, or else what the URL is written as without its fragment
abbrev pub written_unless : Option UriFault → Parts → Result (List ℕ) UriFault
written_unless (Some fault) url = Err fault
written_unless None url = Ok (serialize (without_fragment url))

-- the address that a URL is
abbrev pub address_of : Parts → Result (List ℕ) UriFault
address_of url = written_unless (fault_of_url url) url

-- the address that the parser found
abbrev pub address_from : Parsed Parts → Result (List ℕ) UriFault
address_from (Ok url) = address_of url
address_from (Err refusal) = Err NotAUri

-- the same, of a text that is not too long
abbrev pub address_in : List ℕ → Parsed Parts → Result (List ℕ) UriFault
address_in text parsed =
    if nat_lt most_text (length text) then Err (TooLong (length text)) else address_from parsed

-- a text against a base
abbrev pub joined_url : List ℕ → List ℕ → Parsed Parts
joined_url base text = and_then (parse_url None base) (λ url. parse_url (Some url) text)

-- the result is the answer, unless memory was refused
abbrev pub Answers : {T : Type 0} → Result T UriFault → Result T UriFault → Type 0
Answers result answer = (result ≡ answer) ⊎ (result ≡ Err NoMemory)
