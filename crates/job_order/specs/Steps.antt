-- What the reading of one setting answers.
use Rattle.std.specs.Prelude.{◌≡◌, ℕ, true, false, find, List, Option, None, Result, MatchResult, ⊤}
use Rattle.toml.specs.Data.{Members}
use Rattle.job_spec.specs.declared.fault.JobFault.{JobFault}
use Rattle.job_spec.specs.declared.fault.JobFault.TheVariants as fault
use Rattle.job_spec.specs.declared.setting.Number.{Number}
use Rattle.job_spec.specs.declared.setting.Setting.{Setting}
use Rattle.job_spec.specs.declared.setting.Setting.TheVariants as setting
use Rattle.crawl_kinds.specs.declared.settings.Settings.{Settings}
use Rattle.scope_spec.specs.declared.rule.Rule.{Rule}
use Rattle.job_spec.specs.Gives.{seeds_text, settings_in}
use Rattle.job_spec.specs.Rules.{rules_in}
use Rattle.job_spec.specs.OutOfRange.{is_bad, out_of_range}
use Rattle.job_spec.specs.Settings.{setting_name, numbers}

-- the fault of a setting: it has this name and does not take its value; or want of memory
abbrev pub IsFaultAt : Members → Setting → JobFault → Type 0
IsFaultAt table asked (fault.OutOfRange given) = (is_bad table asked ≡ true) × (given ≡ setting_name asked)
IsFaultAt table asked fault.NoMemory = ⊤
IsFaultAt table asked other = ⊥

-- the setting's value is not bad and gives this, or it is bad and named
abbrev pub Takes : {T : Type 0} → Members → Setting → (T → Type 0) → Result T JobFault → Type 0
Takes table asked Gives result =
    MatchResult result (λ value. (is_bad table asked ≡ false) × Gives value) (IsFaultAt table asked)

-- the first number that is bad
unfoldable pub bad_number : Members → Option Number
bad_number table = find (λ number. is_bad table (setting.Number number)) numbers

-- what the values of a table give, where none is bad
pub record AreValuesOf (table : Members) (settings : Settings) (seeds : List ℕ) (rules : List Rule) : Type 0 where
  pub same_settings : settings ≡ settings_in table
  pub same_seeds : seeds ≡ seeds_text table
  pub same_rules : rules ≡ rules_in table
  pub taken : out_of_range table ≡ None
