-- The seeds and prefixes of lines.
--     seed_of line, prefix_of line      the address that a seed line is, the prefix that a line gives
--     is_refused line      a line of a job's text that gives neither, and is not passed over
--     seeds_of text, prefixes_of text      those of all lines, in order
use Rattle.std.specs.Prelude.{ℕ, Bool, ◌&&◌, ◌||◌, nat_eq, List, drop, codes, filter, Option, Some, None, is_none, if◌then◌else◌}
use Rattle.std.specs.List.{starts_with, filter_map}
use Rattle.std.specs.Result.{result_ok}
use Rattle.crawl_kinds.specs.Text.{is_text, is_visible}
use Rattle.url.specs.Parser.{parse_url}
use Rattle.uri_spec.specs.Prefix.{seed_text}
use Rattle.uri_form.specs.Fault.{address_in}
use Rattle.uri_form.specs.Prefix.{prefix_in}
use Rattle.seed_list.specs.Lines.{lines, is_prefix_line, is_seed_line}

-- the address that a seed line is
unfoldable pub seed_of : List ℕ → Option (List ℕ)
seed_of line = result_ok (address_in (seed_text line) (parse_url None (seed_text line)))

-- the prefix that a text makes as a seed
unfoldable pub prefix_of_seed : List ℕ → Option (List ℕ)
prefix_of_seed text = result_ok (prefix_in text)

-- a text as it stands, where it may be a SURT form: at most 2,200 visible bytes
abbrev pub surt_of : List ℕ → Option (List ℕ)
surt_of text = if is_text is_visible 2200 text then Some text else None

-- the prefix of what follows `+`: as it stands where it begins as SURT forms do, and else what it makes as a seed
unfoldable pub prefix_behind : List ℕ → Option (List ℕ)
prefix_behind rest = if starts_with nat_eq rest (codes "http://(") then surt_of rest else prefix_of_seed rest

-- the prefix of a line
unfoldable pub prefix_of : List ℕ → Option (List ℕ)
prefix_of line =
    if is_prefix_line line then prefix_behind (drop 1 line)
    else (if is_seed_line line then prefix_of_seed line else None)

-- a line that is to give a seed or a prefix and gives none
unfoldable pub is_refused : List ℕ → Bool
is_refused line = (is_seed_line line && is_none (seed_of line)) || (is_prefix_line line && is_none (prefix_of line))

-- the seeds of lines
unfoldable pub seeds_in : List (List ℕ) → List (List ℕ)
seeds_in all = filter_map seed_of (filter is_seed_line all)

-- the prefixes of lines
unfoldable pub prefixes_in : List (List ℕ) → List (List ℕ)
prefixes_in all = filter_map prefix_of all

-- the addresses of the seed lines, in order
abbrev pub seeds_of : List ℕ → List (List ℕ)
seeds_of text = seeds_in (lines text)

-- the prefixes of seed lines and of `+` lines, in order
abbrev pub prefixes_of : List ℕ → List (List ℕ)
prefixes_of text = prefixes_in (lines text)
