-- The rules of a job: when they are bad, and what they are.
use Rattle.std.proofs.Common.{◌≡◌, Bool, true, false, not, List, [], Option, Some, None, ap, ◌∙◌}
use Rattle.std.specs.Prelude.{is_some, unwrap_or, option_and_then}
use Rattle.std.specs.Option.{option_map_or}
use Rattle.scope_spec.specs.declared.rule.Rule.{Rule}
use Rattle.toml.specs.Data.{Data, Members, get_member}
use Rattle.job_spec.specs.declared.setting.Setting.TheVariants as setting
use Rattle.job_spec.specs.OutOfRange.{is_bad, is_taken}
use Rattle.job_spec.specs.Rules.{as_list, default_rules, or_defaults, rule_in, rules_in}
use Rattle.job_spec.specs.Settings.{setting_name}

abbrev bad_by : Option Data → Bool
bad_by value = option_map_or (λ v. not (is_some (as_list rule_in v))) value false

pub rules_absent : (m : Members) → get_member (setting_name setting.Rule) m ≡ None → (is_bad m setting.Rule ≡ false) × (rules_in m ≡ default_rules)
unfolding is_bad is_taken rules_in
rules_absent m none = (ap bad_by none, ap (λ o. or_defaults (unwrap_or (option_and_then (as_list rule_in) o) [])) none)

pub rules_bad : (m : Members) (d : Data) → get_member (setting_name setting.Rule) m ≡ Some d → as_list rule_in d ≡ None → is_bad m setting.Rule ≡ true
unfolding is_bad is_taken
rules_bad m d here none = ap bad_by here ∙ ap (λ o. not (is_some o)) none

pub rules_good : (m : Members) (d : Data) (rules : List Rule) → get_member (setting_name setting.Rule) m ≡ Some d → as_list rule_in d ≡ Some rules
    → (is_bad m setting.Rule ≡ false) × (rules_in m ≡ or_defaults rules)
unfolding is_bad is_taken rules_in
rules_good m d rules here is =
    (ap bad_by here ∙ ap (λ o. not (is_some o)) is, ap (λ o. or_defaults (unwrap_or (option_and_then (as_list rule_in) o) [])) here ∙ ap (λ o. or_defaults (unwrap_or o [])) is)
