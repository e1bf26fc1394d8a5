-- Values that a job text may not have.
use Rattle.std.specs.Prelude.{ℕ, Bool, false, not, ◌&&◌, nat_le, min, List, length, count_by, find, Option, is_some, option_map}
use Rattle.std.specs.Option.{option_map_or}
use Rattle.toml.specs.Data.{Data, Members, get_member, as_str}
use Rattle.seed_list.specs.Lines.{lines, is_seed_line}
use Rattle.seed_list.specs.Bad.{most_seeds, most_text}
use Rattle.job_spec.specs.declared.setting.Number.TheVariants.{MaxKeys}
use Rattle.job_spec.specs.declared.setting.Setting.{Setting}
use Rattle.job_spec.specs.declared.setting.Setting.TheVariants as setting
use Rattle.job_spec.specs.Numbers.{is_within, range_in, number_in}
use Rattle.job_spec.specs.Rules.{as_list, rule_in}
use Rattle.job_spec.specs.Settings.{setting_name, settings_in_order}
use Rattle.job_spec.specs.Texts.{is_name, is_agent, is_address, is_proxy}
use Rattle.job_spec.specs.Values.{as_natural, holds}

-- a job has at most so many seed lines: no more than keys
unfoldable pub seed_limit : Members → ℕ
seed_limit table = min most_seeds (number_in table MaxKeys)

-- the seeds are a text that is not too long, with no more seed lines than that
abbrev pub are_seeds : Members → List ℕ → Bool
are_seeds table text = nat_le (length text) most_text && nat_le (count_by is_seed_line (lines text)) (seed_limit table)

-- a setting takes a value
unfoldable pub is_taken : Members → Setting → Data → Bool
is_taken table setting.Name value = holds is_name (as_str value)
is_taken table setting.Agent value = holds is_agent (as_str value)
is_taken table setting.Contact value = holds is_address (as_str value)
is_taken table setting.Seeds value = holds (are_seeds table) (as_str value)
is_taken table setting.Proxy value = holds is_proxy (as_str value)
is_taken table (setting.Number number) value = holds (is_within (range_in table number)) (as_natural value)
is_taken table setting.Rule value = is_some (as_list rule_in value)

-- a value stands there, and the setting does not take it
unfoldable pub is_bad : Members → Setting → Bool
is_bad table name = option_map_or (λ value. not (is_taken table name value)) (get_member (setting_name name) table) false

-- the first setting with such a value
unfoldable pub out_of_range : Members → Option (List ℕ)
out_of_range table = option_map setting_name (find (is_bad table) settings_in_order)
