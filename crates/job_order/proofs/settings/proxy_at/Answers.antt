use Rattle.std.proofs.Common.{◌≡◌, ◌∙◌, sym, ap, None, Some}
use Rattle.std.specs.Prelude.{option_and_then}
use Rattle.toml.specs.Data.{as_str, get_member}
use Rattle.toml.specs.View.{table_view, view}
use Rattle.job_spec.specs.declared.setting.Setting.TheVariants as setting
use Rattle.job_spec.specs.Settings.{setting_name}
use Rattle.job_order.proofs.TextSettings.{proxy_by, good_absent, bad_value, bad_text, good_text, text_here}
use Rattle.job_order.proofs.KeyTexts.{proxy_is_key}
use Rattle.job_order.proofs.settings.proxy_at.Goals as goal

pub returns-in_default : goal.returns-in_default
returns-in_default c =
    let m = table_view c.args.table.now in
    let none : get_member (setting_name setting.Proxy) m ≡ None = ap (λ name. get_member name m) (sym c.setting_name.ensures) ∙ sym (rw c.in_default.is at c.value_at.ensures) in
    (good_absent (proxy_by m) none, sym (ap (option_and_then as_str) none))

pub returns-in_default-as_str : goal.returns-in_default-as_str
returns-in_default-as_str c =
    let m = table_view c.args.table.now in
    let here : get_member (setting_name setting.Proxy) m ≡ Some (view c.in-Some.value.now) = ap (λ name. get_member name m) (sym c.setting_name.ensures) ∙ sym (rw c.in-Some.is at c.value_at.ensures) in
    c.bad.ensures m (bad_value (view c.in-Some.value.now) (proxy_by m) here (sym (rw c.in_default-as_str.is at c.as_str.ensures)))

pub returns-then-not-is_proxy : goal.returns-then-not-is_proxy
returns-then-not-is_proxy c =
    let m = table_view c.args.table.now in
    let here : get_member (setting_name setting.Proxy) m ≡ Some (view c.in-Some.value.now) = ap (λ name. get_member name m) (sym c.setting_name.ensures) ∙ sym (rw c.in-Some.is at c.value_at.ensures) in
    let text = text_here m setting.Proxy (view c.in-Some.value.now) c.in-Some-as_str.text.now here (sym (rw c.in-Some-as_str.is at c.as_str.ensures)) in
    c.bad-then-not-is_proxy.ensures m (bad_text c.in-Some-as_str.text.now (proxy_by m) text (sym c.is_proxy.ensures ∙ c.if-not-is_proxy.true))

pub key_of-requires : goal.key_of-requires
key_of-requires c = proxy_is_key c.in-Some-as_str.text.now (sym c.is_proxy.ensures ∙ c.if-not-is_proxy.false)

pub returns : goal.returns
returns c =
    let m = table_view c.args.table.now in
    let here : get_member (setting_name setting.Proxy) m ≡ Some (view c.in-Some.value.now) = ap (λ name. get_member name m) (sym c.setting_name.ensures) ∙ sym (rw c.in-Some.is at c.value_at.ensures) in
    let text = text_here m setting.Proxy (view c.in-Some.value.now) c.in-Some-as_str.text.now here (sym (rw c.in-Some-as_str.is at c.as_str.ensures)) in
    (good_text c.in-Some-as_str.text.now (proxy_by m) text (sym c.is_proxy.ensures ∙ c.if-not-is_proxy.false), ap Some c.in_ok-key_of.ensures ∙ sym text)
