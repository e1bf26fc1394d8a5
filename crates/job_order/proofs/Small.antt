-- Numbers of a job that fit 32 bits.
use Rattle.std.proofs.Common.{ℕ, ◌≤◌, Option, Some, None, arith, inl, inr}
use Rattle.std.specs.Prelude.{nat_le, option_and_then, unwrap_or}
use Rattle.std.proofs.lemmas.Bool.{cases_Bool, and_parts, leb-true}
use Rattle.toml.specs.Data.{Members, get_member}
use Rattle.job_spec.specs.declared.setting.Number.TheVariants.{Workers, MaxTries}
use Rattle.job_spec.specs.declared.setting.Range.{Range}
use Rattle.job_spec.specs.declared.setting.Setting.TheVariants as setting
use Rattle.job_spec.specs.Numbers.{is_within, number_in, range_in}
use Rattle.job_spec.specs.Settings.{range_of, setting_name}
use Rattle.job_spec.specs.Values.{as_natural, passing}

at_most : (range : Range) (o : Option ℕ) → range.default ≤ range.most → unwrap_or (passing (is_within range) o) range.default ≤ range.most
at_most range None least = least
at_most range (Some n) least =
    elim (cases_Bool (is_within range n)) [
      | inl within ↦ let parts = and_parts (nat_le range.least n) (nat_le n range.most) within in rw within (leb-true n range.most parts.1)
      | inr other ↦ rw other least
    ]

pub few_workers : (m : Members) → number_in m Workers ≤ 32
unfolding number_in range_in range_of
few_workers m = at_most (range_of Workers) (option_and_then as_natural (get_member (setting_name (setting.Number Workers)) m)) (omega arith)

pub few_tries : (m : Members) → number_in m MaxTries ≤ 1000
unfolding number_in range_in range_of
few_tries m = at_most (range_of MaxTries) (option_and_then as_natural (get_member (setting_name (setting.Number MaxTries)) m)) (omega arith)
