-- The table of a job's settings: their names and their order, and each number's default and range.
use Rattle.std.specs.Prelude.{ℕ, List, [], ◌∷◌, ◌++◌, map, codes}
use Rattle.job_spec.specs.declared.setting.Number.{Number}
use Rattle.job_spec.specs.declared.setting.Number.TheVariants.{Workers, DelayFactor, MinDelay, MaxDelay, MaxCrawlDelay, MaxTries, RetryDelay, Timeout, HostBudget, MaxPages, MaxBytes, MaxSeconds, MaxKeys, MaxResponseBytes, WarcMaxBytes, CheckpointFinishes}
use Rattle.job_spec.specs.declared.setting.Range.{Range}
use Rattle.job_spec.specs.declared.setting.Setting.{Setting}
use Rattle.job_spec.specs.declared.setting.Setting.TheVariants as setting

-- the name of a number
unfoldable pub number_name : Number → List ℕ
number_name Workers = codes "workers"
number_name DelayFactor = codes "delay_factor"
number_name MinDelay = codes "min_delay_ms"
number_name MaxDelay = codes "max_delay_ms"
number_name MaxCrawlDelay = codes "max_crawl_delay_s"
number_name MaxTries = codes "max_tries"
number_name RetryDelay = codes "retry_delay_s"
number_name Timeout = codes "timeout_ms"
number_name HostBudget = codes "host_budget"
number_name MaxPages = codes "max_pages"
number_name MaxBytes = codes "max_bytes"
number_name MaxSeconds = codes "max_seconds"
number_name MaxKeys = codes "max_keys"
number_name MaxResponseBytes = codes "max_response_bytes"
number_name WarcMaxBytes = codes "warc_max_bytes"
number_name CheckpointFinishes = codes "checkpoint_finishes"

-- a default, the least and the most
abbrev pub range : ℕ → ℕ → ℕ → Range
range default least most = record { default = default; least = least; most = most }

-- the default of a number, and the least and the most that it may be
unfoldable pub range_of : Number → Range
range_of Workers = range 25 1 32
range_of DelayFactor = range 5 0 1000
range_of MinDelay = range 3000 0 3600000
range_of MaxDelay = range 30000 0 3600000
range_of MaxCrawlDelay = range 300 0 3600
range_of MaxTries = range 30 1 1000
range_of RetryDelay = range 900 0 86400
range_of Timeout = range 20000 1 600000
range_of HostBudget = range 0 0 2000000
range_of MaxPages = range 0 0 1000000000000000
range_of MaxBytes = range 0 0 1000000000000000
range_of MaxSeconds = range 0 0 1000000000000000
range_of MaxKeys = range 2000000 1 2000000
range_of MaxResponseBytes = range 8388608 65536 8388608
range_of WarcMaxBytes = range 1000000000 1024 1000000000
range_of CheckpointFinishes = range 10000 1 10000

-- the numbers, in order
abbrev pub numbers : List Number
numbers =
    Workers ∷ DelayFactor ∷ MinDelay ∷ MaxDelay ∷ MaxCrawlDelay ∷ MaxTries ∷ RetryDelay ∷ Timeout
    ∷ HostBudget ∷ MaxPages ∷ MaxBytes ∷ MaxSeconds ∷ MaxKeys ∷ MaxResponseBytes ∷ WarcMaxBytes
    ∷ CheckpointFinishes ∷ []

-- the name of a setting
unfoldable pub setting_name : Setting → List ℕ
setting_name setting.Name = codes "name"
setting_name setting.Agent = codes "agent"
setting_name setting.Contact = codes "contact"
setting_name setting.Seeds = codes "seeds"
setting_name setting.Proxy = codes "proxy"
setting_name (setting.Number number) = number_name number
setting_name setting.Rule = codes "rule"

-- what a job has to give
abbrev pub needed : List Setting
needed = setting.Name ∷ setting.Agent ∷ setting.Contact ∷ setting.Seeds ∷ []

-- all settings, in order
abbrev pub settings_in_order : List Setting
settings_in_order = needed ++ (setting.Proxy ∷ map setting.Number numbers) ++ setting.Rule ∷ []

-- their names
unfoldable pub setting_names : List (List ℕ)
setting_names = map setting_name settings_in_order
