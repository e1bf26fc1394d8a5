use Rattle.std.proofs.Common.{◌≡◌, ◌∙◌, sym, ap, None, Some}
use Rattle.toml.specs.Data.{get_member}
use Rattle.toml.specs.View.{table_view, view}
use Rattle.job_spec.specs.declared.setting.Setting.TheVariants as setting
use Rattle.job_spec.specs.Settings.{setting_name}
use Rattle.job_order.proofs.RuleSetting.{rules_absent, rules_bad, rules_good}
use Rattle.job_order.proofs.settings.rules_at.Goals as goal

pub returns-in_default : goal.returns-in_default
returns-in_default c =
    let m = table_view c.args.table.now in
    let none : get_member (setting_name setting.Rule) m ≡ None = ap (λ name. get_member name m) (sym c.setting_name.ensures) ∙ sym (rw c.in_default.is at c.value_at.ensures) in
    let given = rules_absent m none in
    (given.0, c.in_ok-default_rules.ensures ∙ sym given.1)

pub returns-in_default-2 : goal.returns-in_default-2
returns-in_default-2 c =
    let m = table_view c.args.table.now in
    let here : get_member (setting_name setting.Rule) m ≡ Some (view c.in-Some.value.now) = ap (λ name. get_member name m) (sym c.setting_name.ensures) ∙ sym (rw c.in-Some.is at c.value_at.ensures) in
    c.bad.ensures m (rules_bad m (view c.in-Some.value.now) here (sym c.in_ok-rules.ensures ∙ c.in_default-2.is))

pub returns : goal.returns
returns c =
    let m = table_view c.args.table.now in
    let here : get_member (setting_name setting.Rule) m ≡ Some (view c.in-Some.value.now) = ap (λ name. get_member name m) (sym c.setting_name.ensures) ∙ sym (rw c.in-Some.is at c.value_at.ensures) in
    let given = rules_good m (view c.in-Some.value.now) c.in-Some-2.rules here (sym c.in_ok-rules.ensures ∙ c.in-Some-2.is) in
    (given.0, c.in_ok-or_defaults.ensures ∙ sym given.1)
