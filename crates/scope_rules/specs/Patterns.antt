-- Patterns that are compiled.
--     is_bad source      the text is no pattern
--     IsCompiled regex      the regex is what the grammar reads in its text, with the default options
--     Finds source re      the expression has a match in a text just where the pattern is found in it
use Rattle.std.specs.Prelude.{◌≡◌, ℕ, ◌<◌, Bool, not, List, get_or, is_some}
use Rattle.scope_spec.specs.Pattern.{is_found, is_pattern}
use Rattle.regex.specs.Patterns.{Re, find_str, default_config}
use Rattle.regex.specs.Strings.{regex_config, IsReadFromSource}
use Rattle.regex.specs.declared.string.regex.Regex.{Regex}

-- the text is no pattern
abbrev pub is_bad : List ℕ → Bool
is_bad source = not (is_pattern source)

-- the regex is what the grammar reads in its text, with the default options
abbrev pub IsCompiled : Regex → Type 0
IsCompiled r = (regex_config r ≡ default_config) × IsReadFromSource r

-- the expression has a match in a text of bytes just where the pattern is found in it
pub record Finds (source : List ℕ) (re : Re) : Type 0 where
  pub same : (text : List ℕ) → ((k : ℕ) → get_or text k 0 < 256) → is_some (find_str re text 0) ≡ is_found source text
