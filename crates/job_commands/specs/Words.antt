-- The words of a call.
--     read_of words      the command that the words are, or the first word at which none continues
use Rattle.std.specs.Prelude.{ℕ, ◌==◌, Bool, List, [], ◌∷◌, length, Option, Some, None, Result, Ok, Err, codes, if◌then◌else◌}
use Rattle.std.specs.Str.{bytes_eq}
use Rattle.job_commands.specs.declared.words.Command.{Command}
use Rattle.job_commands.specs.declared.words.Command.TheVariants.{Init, Enqueue}

-- the command that a word names
abbrev pub command_of : List ℕ → Option Command
command_of word =
    if bytes_eq word (codes "init") then Some Init else (if bytes_eq word (codes "enqueue") then Some Enqueue else None)

-- no word follows a command
abbrev pub read_behind : Option Command → Bool → Result Command ℕ
read_behind None is_last = Err 0
read_behind (Some command) is_last = if is_last then Ok command else Err 1

-- the command that the words are; else the first word at which none continues, or the number of words where one more is wanted
abbrev pub read_of : List (List ℕ) → Result Command ℕ
read_of [] = Err 0
read_of (word ∷ more) = read_behind (command_of word) (length more == 0)
