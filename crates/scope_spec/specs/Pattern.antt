-- Patterns: which texts are one, and where one is found. The words are those of `regex`.
use Rattle.std.specs.Prelude.{ℕ, Bool, nat_le, List, is_some, chars}
use Rattle.regex_hir.specs.Text.{is_some_and}
use Rattle.regex_syntax.specs.Grammar.{read}
use Rattle.regex.specs.Patterns.{find_str, default_config}

-- the grammar reads the text, and within the limit on nesting
abbrev pub is_pattern : List ℕ → Bool
is_pattern source = is_some_and (read default_config (chars source)) (λ x. nat_le x.0.depth default_config.nest_limit)

-- what the grammar reads in the pattern has a match somewhere in the text
abbrev pub is_found : List ℕ → List ℕ → Bool
is_found source text = is_some_and (read default_config (chars source)) (λ x. is_some (find_str x.0.value text 0))
