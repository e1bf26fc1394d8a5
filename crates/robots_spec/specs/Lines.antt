-- The lines of a robots file and what they say (RFC 9309 §2.2).
--     lines_of text      the lines, without a byte order mark
--     line_of bytes      the field that a line sets, and its value
use Rattle.std.specs.Prelude.{ℕ, Bool, ◌||◌, ◌-◌, nat_lt, nat_eq, ◌==◌, if◌then◌else◌, List, [], ◌∷◌, length, take, drop, map, codes, bytes_eq, take_while, min, fold, ◌+◌, ◌*◌, Option, Some, None}
use Rattle.std.specs.List.{slice_split, before_first, after_first, prefix_len, suffix_len, position_or_len, starts_with}
use Rattle.std.specs.Char.{to_ascii_lowercase, is_ascii_alphabetic, is_ascii_digit}
use Rattle.robots_spec.specs.declared.Field.{Field}
use Rattle.robots_spec.specs.declared.Field.TheVariants.{UserAgent, Allow, Disallow, CrawlDelay, Other}

-- the byte order mark of UTF-8, in which the file is written (§2.3)
abbrev pub byte_order_mark : List ℕ
byte_order_mark = 0xEF ∷ 0xBB ∷ 0xBF ∷ []

-- the text without one at its front
abbrev pub without_mark : List ℕ → List ℕ
without_mark text = if starts_with nat_eq text byte_order_mark then drop 3 text else text

-- LF and CR end a line (§2.2, EOL)
abbrev pub is_line_end : ℕ → Bool
is_line_end b = b == 10 || b == 13

-- the pieces between line ends (§2.2). Between the CR and the LF of one end stands an empty piece, which says nothing
abbrev pub lines_of : List ℕ → List (List ℕ)
lines_of text = slice_split is_line_end (without_mark text)

-- a space or a tab (§2.2, WS)
abbrev pub is_blank : ℕ → Bool
is_blank b = b == 32 || b == 9

-- without the blanks at the end
abbrev pub end_trimmed : List ℕ → List ℕ
end_trimmed xs = take (length xs - suffix_len is_blank xs) xs

-- without the blanks at both ends
abbrev pub trimmed : List ℕ → List ℕ
trimmed xs = drop (prefix_len is_blank (end_trimmed xs)) (end_trimmed xs)

-- `#` begins a comment (§2.2.3)
abbrev pub is_hash : ℕ → Bool
is_hash b = b == 35

-- `:`
abbrev pub is_colon : ℕ → Bool
is_colon b = b == 58

-- the two names are one, in whatever case (§2.2.1)
abbrev pub same_name : List ℕ → List ℕ → Bool
same_name a b = bytes_eq (map to_ascii_lowercase a) (map to_ascii_lowercase b)

-- the field that a name names; of the other records (§2.2.4) only the delay is read
abbrev pub field_named : List ℕ → Field
field_named name =
    if same_name name (codes "user-agent")
    then UserAgent
    else if same_name name (codes "allow")
    then Allow
    else if same_name name (codes "disallow")
    then Disallow
    else if same_name name (codes "crawl-delay")
    then CrawlDelay
    else Other

-- a line: the field that it sets, and to what
pub record Line : Type 0 where
  pub field : Field
  pub value : List ℕ

-- a name, a `:` and a value, round which blanks may stand (§2.2)
abbrev pub setting_of : List ℕ → Line
setting_of said =
    record {
      field = if nat_lt (position_or_len is_colon said) (length said) then field_named (trimmed (before_first is_colon said)) else Other;
      value = trimmed (after_first is_colon said);
    }

-- what a line says: what stands before its comment
abbrev pub line_of : List ℕ → Line
line_of bytes = setting_of (before_first is_hash bytes)

-- the octets of a product token (§2.2.1)
abbrev pub is_token_octet : ℕ → Bool
is_token_octet b = is_ascii_alphabetic b || b == 95 || b == 45

-- `*`
abbrev pub is_star : ℕ → Bool
is_star b = b == 42

-- the name of all agents
abbrev pub all_agents : List ℕ
all_agents = codes "*"

-- the agent that a user-agent line names: `*`, or the product token at the front of the value (§2.2.1)
abbrev pub agent_named : List ℕ → List ℕ
agent_named value = if starts_with nat_eq value all_agents then all_agents else take_while is_token_octet value

-- the most seconds of a delay
abbrev pub most_seconds : ℕ
most_seconds = 999999999

-- the number that decimal digits write
abbrev pub decimal_number : List ℕ → ℕ
decimal_number digits = fold (λ n d. 10 * n + (d - 48)) 0 digits

-- whole seconds, by the digits at the front of the value, if there are any
abbrev pub seconds_of : List ℕ → Option ℕ
seconds_of value =
    let digits = take_while is_ascii_digit value in
    if length digits == 0 then None else Some (min most_seconds (decimal_number digits))
