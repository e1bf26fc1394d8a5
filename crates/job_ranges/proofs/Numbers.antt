-- The numbers of a job are within their ranges: what stands there is, or else the default is.
use Rattle.std.proofs.Common.{◌≡◌, ℕ, ◌≤◌, true, le-leb, Option, Some, None, refl, inl, inr, arith}
use Rattle.std.specs.Prelude.{nat_le, max, option_and_then, unwrap_or}
use Rattle.std.proofs.lemmas.Bool.{cases_Bool, and_from, and_parts, leb-true}
use Rattle.toml.specs.Data.{Members, get_member}
use Rattle.job_spec.specs.declared.setting.Number.{Number}
use Rattle.job_spec.specs.declared.setting.Number.TheVariants.{Workers, DelayFactor, MinDelay, MaxDelay, MaxCrawlDelay, MaxTries, RetryDelay, Timeout, HostBudget, MaxPages, MaxBytes, MaxSeconds, MaxKeys, MaxResponseBytes, WarcMaxBytes, CheckpointFinishes}
use Rattle.job_spec.specs.declared.setting.Range.{Range}
use Rattle.job_spec.specs.declared.setting.Setting.TheVariants as setting
use Rattle.job_spec.specs.Numbers.{is_within, number_by, number_in, raised, range_in}
use Rattle.job_spec.specs.Settings.{range_of, setting_name}
use Rattle.job_spec.specs.Values.{as_natural, passing}
use Rattle.job_ranges.specs.Laws.{IsFrom}

passing_or : (range : Range) (given : Option ℕ) → is_within range range.default ≡ true → is_within range (unwrap_or (passing (is_within range) given) range.default) ≡ true
passing_or range None default = default
passing_or range (Some n) default =
    elim (cases_Bool (is_within range n)) [
      | inl within ↦ rw within within
      | inr other ↦ rw other default
    ]

bounds : (range : Range) (n : ℕ) → is_within range n ≡ true → IsFrom range.least range.most n
bounds range n is =
    let parts = and_parts (nat_le range.least n) (nat_le n range.most) is in
    (leb-true _ _ parts.0, leb-true _ _ parts.1)

-- a number is within its range, where the default is
by_range : (range : Range) (number : Number) (m : Members) → is_within range range.default ≡ true → IsFrom range.least range.most (number_by range number m)
by_range range number m default =
    let given = option_and_then as_natural (get_member (setting_name (setting.Number number)) m) in
    bounds range (number_by range number m) (passing_or range given default)

-- the default of a raised range is within it
raised_default : (least : ℕ) (range : Range) → least ≤ range.most → range.default ≤ range.most → is_within (raised least range) (max range.default least) ≡ true
raised_default least range low default =
    and_from (nat_le least (max range.default least)) (nat_le (max range.default least) range.most) (le-leb _ _ (omega arith)) (le-leb _ _ (omega arith))

-- the numbers of a table
pub record AreNumbers (m : Members) : Type 0 where
  pub workers : IsFrom 1 32 (number_in m Workers)
  pub delay_factor : IsFrom 0 1000 (number_in m DelayFactor)
  pub min_delay : IsFrom 0 3600000 (number_in m MinDelay)
  pub max_delay : IsFrom (number_in m MinDelay) 3600000 (number_in m MaxDelay)
  pub max_crawl_delay : IsFrom 0 3600 (number_in m MaxCrawlDelay)
  pub max_tries : IsFrom 1 1000 (number_in m MaxTries)
  pub retry_delay : IsFrom 0 86400 (number_in m RetryDelay)
  pub timeout : IsFrom 1 600000 (number_in m Timeout)
  pub host_budget : IsFrom 0 2000000 (number_in m HostBudget)
  pub max_pages : IsFrom 0 1000000000000000 (number_in m MaxPages)
  pub max_bytes : IsFrom 0 1000000000000000 (number_in m MaxBytes)
  pub max_seconds : IsFrom 0 1000000000000000 (number_in m MaxSeconds)
  pub max_keys : IsFrom 1 2000000 (number_in m MaxKeys)
  pub max_response_bytes : IsFrom 65536 8388608 (number_in m MaxResponseBytes)
  pub warc_max_bytes : IsFrom 1024 1000000000 (number_in m WarcMaxBytes)
  pub checkpoint_finishes : IsFrom 1 10000 (number_in m CheckpointFinishes)

pub numbers : (m : Members) → AreNumbers m
unfolding number_in range_in range_of
numbers m =
    let least = by_range (range_of MinDelay) MinDelay m refl in
    let raised_is = raised_default (number_by (range_of MinDelay) MinDelay m) (range_of MaxDelay) least.1 (omega arith) in
    record {
      workers = by_range (range_of Workers) Workers m refl;
      delay_factor = by_range (range_of DelayFactor) DelayFactor m refl;
      min_delay = least;
      max_delay = by_range (range_in m MaxDelay) MaxDelay m raised_is;
      max_crawl_delay = by_range (range_of MaxCrawlDelay) MaxCrawlDelay m refl;
      max_tries = by_range (range_of MaxTries) MaxTries m refl;
      retry_delay = by_range (range_of RetryDelay) RetryDelay m refl;
      timeout = by_range (range_of Timeout) Timeout m refl;
      host_budget = by_range (range_of HostBudget) HostBudget m refl;
      max_pages = by_range (range_of MaxPages) MaxPages m refl;
      max_bytes = by_range (range_of MaxBytes) MaxBytes m refl;
      max_seconds = by_range (range_of MaxSeconds) MaxSeconds m refl;
      max_keys = by_range (range_of MaxKeys) MaxKeys m refl;
      max_response_bytes = by_range (range_of MaxResponseBytes) MaxResponseBytes m refl;
      warc_max_bytes = by_range (range_of WarcMaxBytes) WarcMaxBytes m refl;
      checkpoint_finishes = by_range (range_of CheckpointFinishes) CheckpointFinishes m refl;
    }
