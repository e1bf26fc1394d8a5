-- Which line of a text is the first bad one.
--     IsRefusedSeed line      a line that is refused where seeds are added
--     AreGood refused all      no line is bad
--     IsBadLine refused all n      the n-th line is the first bad one
use Rattle.std.specs.Prelude.{◌≡◌, ◌⊎◌, ℕ, ◌+◌, ◌≤◌, true, List, ◌∷◌, ◌++◌, length, count_by, All, None}
use Rattle.std.specs.Str.{IsUtf8}
use Rattle.seed_list.specs.Lines.{is_prefix_line, is_seed_line}
use Rattle.seed_list.specs.Seeds.{seed_of, is_refused}

-- a text has at most so many seeds
abbrev pub most_seeds : ℕ
most_seeds = 200000

-- a text of more bytes is not read
abbrev pub most_text : ℕ
most_text = 1048576

-- a line that is refused in a job's text
abbrev pub IsRefused : List ℕ → Type 0
IsRefused line = is_refused line ≡ true

-- a line that is refused where seeds are added: no text, or a `+` line, or a seed that is refused
abbrev pub IsRefusedSeed : List ℕ → Type 0
IsRefusedSeed line = (IsUtf8 line → ⊥) ⊎ ((is_prefix_line line ≡ true) ⊎ ((is_seed_line line ≡ true) × (seed_of line ≡ None)))

-- no line is refused, and there are not too many seeds
pub record AreGood (refused : List ℕ → Type 0) (all : List (List ℕ)) : Type 0 where
  pub taken : All (λ line. refused line → ⊥) all
  pub room : count_by is_seed_line all ≤ most_seeds

-- all before the n-th line are good, and it is refused or the one seed too many
pub record IsBadLine (refused : List ℕ → Type 0) (all : List (List ℕ)) (n : ℕ) : Type 0 where
  pub before : List (List ℕ)
  pub line : List ℕ
  pub after : List (List ℕ)
  pub whole : all ≡ before ++ line ∷ after
  pub number : n ≡ length before + 1
  pub good : AreGood refused before
  pub bad : refused line ⊎ ((is_seed_line line ≡ true) × (most_seeds ≤ count_by is_seed_line before))
