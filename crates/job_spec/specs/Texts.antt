-- Which texts the settings take.
use Rattle.std.specs.Prelude.{ℕ, Bool, ◌&&◌, ◌||◌, ◌==◌, nat_le, List, length, bytes_eq, decimal, None, is_ok}
use Rattle.std.specs.List.{list_all, before_first, after_first}
use Rattle.std.specs.Str.Parse.{digits_value}
use Rattle.crawl_kinds.specs.Text.{is_text, is_visible}
use Rattle.url.specs.Parser.{parse_url}
use Rattle.uri_form.specs.Fault.{address_in}

-- `a` to `z`, `A` to `Z`, `0` to `9`
abbrev pub is_lower : ℕ → Bool
is_lower b = nat_le 97 b && nat_le b 122

abbrev pub is_upper : ℕ → Bool
is_upper b = nat_le 65 b && nat_le b 90

abbrev pub is_digit : ℕ → Bool
is_digit b = nat_le 48 b && nat_le b 57

abbrev pub is_letter : ℕ → Bool
is_letter b = is_lower b || is_upper b

-- 1 to `most` bytes that pass a test
abbrev pub is_word : ℕ → (ℕ → Bool) → List ℕ → Bool
is_word most test text = nat_le 1 (length text) && nat_le (length text) most && list_all test text

-- `a-z 0-9 -`
abbrev pub is_name_byte : ℕ → Bool
is_name_byte b = is_lower b || is_digit b || b == 45

-- a job's name: 1 to 32 of them
unfoldable pub is_name : List ℕ → Bool
is_name text = is_word 32 is_name_byte text

-- letters, `_` and `-`
abbrev pub is_agent_byte : ℕ → Bool
is_agent_byte b = is_letter b || b == 95 || b == 45

-- a product token (RFC 9309 section 2.2.1): 1 to 64 of them
unfoldable pub is_agent : List ℕ → Bool
is_agent text = is_word 64 is_agent_byte text

-- a text that is read as an http or https address
unfoldable pub is_address : List ℕ → Bool
is_address text = is_ok (address_in text (parse_url None text))

-- letters, digits, `.` and `-`
abbrev pub is_host_byte : ℕ → Bool
is_host_byte b = is_letter b || is_digit b || b == 46 || b == 45

-- a host: 1 to 255 of them
abbrev pub is_host : List ℕ → Bool
is_host text = is_word 255 is_host_byte text

-- a port: a number from 1 to 65535, as it is written in decimal
abbrev pub is_port : List ℕ → Bool
is_port text =
    let port = digits_value 10 text in
    nat_le 1 port && nat_le port 65535 && bytes_eq text (decimal port)

-- a proxy: a host, and a port behind the first `:`
unfoldable pub is_proxy : List ℕ → Bool
is_proxy text = is_host (before_first (λ b. b == 58) text) && is_port (after_first (λ b. b == 58) text)

-- a SURT form or the beginning of one: at most 2,200 visible bytes
unfoldable pub is_surt : List ℕ → Bool
is_surt text = is_text is_visible 2200 text
