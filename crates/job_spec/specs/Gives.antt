-- What the table of a job gives.
--     settings_in table, seeds_text table      its settings, the text of its seed lines
use Rattle.std.specs.Prelude.{ℕ, List, [], Option, None, unwrap_or, option_and_then}
use Rattle.std.specs.Result.{result_ok}
use Rattle.crawl_kinds.specs.declared.settings.Settings.{Settings}
use Rattle.toml.specs.Data.{Members, get_member, as_str}
use Rattle.url.specs.Parser.{parse_url}
use Rattle.uri_form.specs.Fault.{address_in}
use Rattle.job_spec.specs.declared.setting.Number.TheVariants.{Workers, DelayFactor, MinDelay, MaxDelay, MaxCrawlDelay, MaxTries, RetryDelay, Timeout, HostBudget, MaxPages, MaxBytes, MaxSeconds, MaxKeys, MaxResponseBytes, WarcMaxBytes, CheckpointFinishes}
use Rattle.job_spec.specs.declared.setting.Setting.{Setting}
use Rattle.job_spec.specs.declared.setting.Setting.TheVariants as setting
use Rattle.job_spec.specs.Numbers.{number_in}
use Rattle.job_spec.specs.Settings.{setting_name}

-- the text at a setting, where one stands there
abbrev pub text_at : Members → Setting → Option (List ℕ)
text_at table name = option_and_then as_str (get_member (setting_name name) table)

-- the text of a setting that is needed
unfoldable pub text_in : Members → Setting → List ℕ
text_in table name = unwrap_or (text_at table name) []

-- the address as which a text is read
unfoldable pub address_of : List ℕ → List ℕ
address_of text = unwrap_or (result_ok (address_in text (parse_url None text))) []

-- the settings of a job
unfoldable pub settings_in : Members → Settings
settings_in table = record {
  name = text_in table setting.Name;
  agent = text_in table setting.Agent;
  contact = address_of (text_in table setting.Contact);
  proxy = text_at table setting.Proxy;
  workers = number_in table Workers;
  delay_factor = number_in table DelayFactor;
  min_delay_ms = number_in table MinDelay;
  max_delay_ms = number_in table MaxDelay;
  max_crawl_delay_s = number_in table MaxCrawlDelay;
  max_tries = number_in table MaxTries;
  retry_delay_s = number_in table RetryDelay;
  timeout_ms = number_in table Timeout;
  host_budget = number_in table HostBudget;
  max_pages = number_in table MaxPages;
  max_bytes = number_in table MaxBytes;
  max_seconds = number_in table MaxSeconds;
  max_keys = number_in table MaxKeys;
  max_response_bytes = number_in table MaxResponseBytes;
  warc_max_bytes = number_in table WarcMaxBytes;
  checkpoint_finishes = number_in table CheckpointFinishes;
}

-- the seed lines of a job
abbrev pub seeds_text : Members → List ℕ
seeds_text table = text_in table setting.Seeds
