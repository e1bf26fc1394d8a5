-- The numbers of a job.
use Rattle.std.specs.Prelude.{ℕ, Bool, ◌&&◌, nat_le, max, unwrap_or, option_and_then}
use Rattle.toml.specs.Data.{Members, get_member}
use Rattle.job_spec.specs.declared.setting.Number.{Number}
use Rattle.job_spec.specs.declared.setting.Number.TheVariants.{MinDelay, MaxDelay}
use Rattle.job_spec.specs.declared.setting.Range.{Range}
use Rattle.job_spec.specs.declared.setting.Setting.TheVariants as setting
use Rattle.job_spec.specs.Settings.{setting_name, range_of}
use Rattle.job_spec.specs.Values.{as_natural, passing}

-- from the least to the most
abbrev pub is_within : Range → ℕ → Bool
is_within range n = nat_le range.least n && nat_le n range.most

-- the number that stands at a name, where it is within a range, and else the range's default
abbrev pub number_by : Range → Number → Members → ℕ
number_by range number table =
    let given = option_and_then as_natural (get_member (setting_name (setting.Number number)) table) in
    unwrap_or (passing (is_within range) given) range.default

-- a range that begins at `least`, with a default that is in it
abbrev pub raised : ℕ → Range → Range
raised least range = record { default = max range.default least; least = least; most = range.most }

-- the range of a number in a job: the greatest delay is no less than the least
unfoldable pub range_in : Members → Number → Range
range_in table MaxDelay = raised (number_by (range_of MinDelay) MinDelay table) (range_of MaxDelay)
range_in table number = range_of number

-- what a job gives for a number
unfoldable pub number_in : Members → Number → ℕ
number_in table number = number_by (range_in table number) number table
