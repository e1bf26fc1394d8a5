-- Moments as dates of UTC (ISO 28500 §5.4; RFC 3339), to the millisecond.
--     IsDateOf moment text      the text is the date and the time of the moment, milliseconds since 1970
use Rattle.std.specs.Prelude.{◌≡◌, ℕ, ◌+◌, ◌*◌, ◌/◌, ◌%◌, List, [], ◌∷◌, ◌++◌, codes, pos, unsigned_abs}
use Rattle.jiff_core.specs.declared.civil.datetime.DateTime.{DateTime}
use Rattle.jiff_core.specs.DateTime.{civil_nanos}

-- the last decimal digit of a number
abbrev pub digit : ℕ → ℕ
digit number = 48 + number % 10

abbrev pub two_digits : ℕ → List ℕ
two_digits number = digit (number / 10) ∷ digit number ∷ []

abbrev pub three_digits : ℕ → List ℕ
three_digits number = digit (number / 100) ∷ two_digits number

abbrev pub four_digits : ℕ → List ℕ
four_digits number = digit (number / 1000) ∷ three_digits number

-- YYYY-MM-DDThh:mm:ss.mmmZ, of a date in a year from 0 to 9999
abbrev pub utc_text : DateTime → List ℕ
utc_text utc =
    four_digits (unsigned_abs utc.date.year)
    ++ codes "-" ++ two_digits utc.date.month
    ++ codes "-" ++ two_digits utc.date.day
    ++ codes "T" ++ two_digits utc.time.hour
    ++ codes ":" ++ two_digits utc.time.minute
    ++ codes ":" ++ two_digits utc.time.second
    ++ codes "." ++ three_digits (utc.time.subsec_nanosecond / 1_000_000)
    ++ codes "Z"

-- the text is that of the date and the time of UTC at which so many milliseconds have passed since 1970
pub record IsDateOf (moment : ℕ) (text : List ℕ) : Type 0 where
  pub utc : DateTime
  pub passed : civil_nanos utc ≡ pos (moment * 1_000_000)
  pub written : text ≡ utc_text utc
