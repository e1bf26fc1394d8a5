-- Equal segments in a row, one after another.
--     run_with run last segment      how many are equal up to this segment
--     is_too_long max run segment      a run that ends with this segment is too long
use Rattle.std.specs.Prelude.{ℕ, ◌+◌, Bool, ◌&&◌, nat_lt, List, length, bytes_eq, if◌then◌else◌}

-- how many are equal up to this segment, where `run` are up to the last; an empty one continues none
abbrev pub run_with : ℕ → List ℕ → List ℕ → ℕ
run_with run last segment = if nat_lt 0 (length segment) && bytes_eq last segment then run + 1 else 1

-- more than `max` are equal up to this segment, which is not empty
abbrev pub is_too_long : ℕ → ℕ → List ℕ → Bool
is_too_long max run segment = nat_lt 0 (length segment) && nat_lt max run
