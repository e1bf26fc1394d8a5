-- What the reader holds after each line. That it comes to the groups' rules is proved.
use Rattle.std.specs.Prelude.{ℕ, ◌+◌, ◌*◌, Bool, true, false, ◌||◌, if◌then◌else◌, List, [], ◌∷◌, ◌++◌, Option, Some, None}
use Rattle.std.specs.Char.{is_digit, digit_value}
use Rattle.percent_encoding.specs.Percent.{is_escape}
use Rattle.robots_spec.specs.declared.Field.{Field}
use Rattle.robots_spec.specs.declared.Field.TheVariants.{UserAgent, Allow, Disallow, CrawlDelay, Other}
use Rattle.robots_spec.specs.Lines.{Line, lines_of, line_of, agent_named, same_name, seconds_of}
use Rattle.robots_spec.specs.Groups.{AgentRules}
use Rattle.robots_spec.specs.Patterns.{normal}
use Rattle.robots_rules.specs.declared.collector.Collector.{Collector}

-- the value of a hexadecimal digit
abbrev pub hex_value : ℕ → Option ℕ
hex_value b = if is_digit b 16 then Some (digit_value b) else None

-- the octet of a triple at the front
abbrev pub escape_at : List ℕ → Option ℕ
escape_at [] = None
escape_at (b ∷ []) = None
escape_at (b ∷ c ∷ []) = None
escape_at (b ∷ high ∷ low ∷ rest) = if is_escape b high low then Some (16 * digit_value high + digit_value low) else None

-- no line so far
abbrev pub begun : Collector
begun = record { found = false; rules = []; delay = None; member = false; heading = false; open_delay = None }

-- the first of two, or else the second
abbrev pub or_else : Option ℕ → Option ℕ → Option ℕ
or_else (Some n) o = Some n
or_else None o = o

-- the first delay, with the open group closed
abbrev pub settled : Collector → Option ℕ
settled c = or_else c.delay (if c.member then c.open_delay else None)

-- a new group
abbrev pub opened : Collector → Collector
opened c = record { found = c.found; rules = c.rules; delay = settled c; member = false; heading = true; open_delay = None }

-- one more agent of the open group
abbrev pub joined : Bool → Collector → Collector
joined is_it c = record { found = c.found || is_it; rules = c.rules; delay = c.delay; member = c.member || is_it; heading = c.heading; open_delay = c.open_delay }

abbrev pub named : Bool → Collector → Collector
named is_it c = joined is_it (if c.heading then c else opened c)

abbrev pub ruled : Bool → List ℕ → Collector → Collector
ruled allows value c =
    record {
      found = c.found;
      rules = if c.member then c.rules ++ (record { allows = allows; pattern = normal value }) ∷ [] else c.rules;
      delay = c.delay;
      member = c.member;
      heading = false;
      open_delay = c.open_delay;
    }

abbrev pub delayed : Option ℕ → Collector → Collector
delayed seconds c = record c { open_delay = or_else c.open_delay seconds }

abbrev pub after_by : List ℕ → Collector → Field → List ℕ → Collector
after_by agent c UserAgent value = named (same_name agent (agent_named value)) c
after_by agent c Allow value = ruled true value c
after_by agent c Disallow value = ruled false value c
after_by agent c CrawlDelay value = delayed (seconds_of value) c
after_by agent c Other value = c

-- after one more line
abbrev pub after : List ℕ → Collector → Line → Collector
after agent c line = after_by agent c line.field line.value

-- after these lines
abbrev pub after_all : List ℕ → Collector → List (List ℕ) → Collector
after_all agent c [] = c
after_all agent c (bytes ∷ lines) = after_all agent (after agent c (line_of bytes)) lines

abbrev pub read_by : List ℕ → List ℕ → Collector
read_by agent text = after_all agent begun (lines_of text)

abbrev pub robots_of : Collector → AgentRules
robots_of c = record { rules = c.rules; delay = settled c }
