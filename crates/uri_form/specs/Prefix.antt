-- What the prefix of a seed answers.
use Rattle.std.specs.Prelude.{List, ℕ, Bool, None, Result, Ok, Err}
use Rattle.url.specs.Parser.{parse_url}
use Rattle.uri_spec.specs.Surt.{of_parsed}
use Rattle.uri_spec.specs.Prefix.{prefix_of, names_a_path, seed_text}
use Rattle.uri_form.specs.declared.fault.UriFault.{UriFault}
use Rattle.uri_form.specs.Fault.{address_in}

-- the prefix of an address, or the fault
abbrev pub prefix_from : Bool → Result (List ℕ) UriFault → Result (List ℕ) UriFault
prefix_from named (Ok text) = Ok (of_parsed (prefix_of named) (parse_url None text))
prefix_from named (Err fault) = Err fault

-- the prefix of a seed
abbrev pub prefix_in : List ℕ → Result (List ℕ) UriFault
prefix_in text = prefix_from (names_a_path text) (address_in (seed_text text) (parse_url None (seed_text text)))
