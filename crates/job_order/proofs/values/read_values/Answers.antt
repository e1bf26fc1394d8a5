-- Each setting is read behind good ones, so that the first bad one is named.
use Rattle.std.proofs.Common.{◌≡◌, ◌∙◌, ap, subst, sym}
use Rattle.std.proofs.lemmas.Result.{err_from_is_err_and}
use Rattle.crawl_kinds.specs.Address.{IsUri}
use Rattle.crawl_kinds.specs.declared.settings.Settings.{Settings}
use Rattle.toml.specs.View.{table_view}
use Rattle.job_spec.specs.declared.setting.Setting.TheVariants as setting
use Rattle.job_spec.specs.Gives.{settings_in}
use Rattle.job_order.proofs.Order.{AreGoodTexts, present, first_refusal, at_name, at_agent, at_contact, at_seeds, at_proxy, at_number, at_rule, none_bad}
use Rattle.job_order.proofs.values.read_values.Goals as goal

pub name_at-requires : goal.name_at-requires
name_at-requires c = (present (table_view c.args.table.now) c.requires).name

pub agent_at-requires : goal.agent_at-requires
agent_at-requires c = (present (table_view c.args.table.now) c.requires).agent

pub contact_at-requires : goal.contact_at-requires
contact_at-requires c = (present (table_view c.args.table.now) c.requires).contact

pub seeds_at-requires : goal.seeds_at-requires
seeds_at-requires c = (present (table_view c.args.table.now) c.requires).seeds

pub returns-in_err-name-clause-read : goal.returns-in_err-name-clause-read
returns-in_err-name-clause-read c =
    let m = table_view c.args.table.now in
    let p = err_from_is_err_and c.from_residual.result c.from_residual.ensures.1 in
    rw (p.1, p.2) (first_refusal m setting.Name c.in_err-name.field-0.0 c.requires (at_name m) c.in_err-name.ensures)

pub returns-in_err-agent-clause-read : goal.returns-in_err-agent-clause-read
returns-in_err-agent-clause-read c =
    let m = table_view c.args.table.now in
    let p = err_from_is_err_and c.from_residual-in_err-agent.result c.from_residual-in_err-agent.ensures.1 in
    rw (p.1, p.2) (first_refusal m setting.Agent c.in_err-agent.field-0.0 c.requires (at_agent m c.in_ok-name.ensures.0) c.in_err-agent.ensures)

pub returns-in_err-contact-clause-read : goal.returns-in_err-contact-clause-read
returns-in_err-contact-clause-read c =
    let m = table_view c.args.table.now in
    let p = err_from_is_err_and c.from_residual-in_err-contact.result c.from_residual-in_err-contact.ensures.1 in
    rw (p.1, p.2) (first_refusal m setting.Contact c.in_err-contact.field-0.0 c.requires (at_contact m c.in_ok-name.ensures.0 c.in_ok-agent.ensures.0) c.in_err-contact.ensures.takes)

pub returns-in_err-seeds-clause-read : goal.returns-in_err-seeds-clause-read
returns-in_err-seeds-clause-read c =
    let m = table_view c.args.table.now in
    let p = err_from_is_err_and c.from_residual-in_err-seeds.result c.from_residual-in_err-seeds.ensures.1 in
    rw (p.1, p.2) (first_refusal m setting.Seeds c.in_err-seeds.field-0.0 c.requires (at_seeds m c.in_ok-name.ensures.0 c.in_ok-agent.ensures.0 c.in_ok-contact.ensures.takes.0) c.in_err-seeds.ensures)

pub returns-in_err-proxy-clause-read : goal.returns-in_err-proxy-clause-read
returns-in_err-proxy-clause-read c =
    let m = table_view c.args.table.now in
    let good : AreGoodTexts m = record { name = c.in_ok-name.ensures.0; agent = c.in_ok-agent.ensures.0; contact = c.in_ok-contact.ensures.takes.0; seeds = c.in_ok-seeds.ensures.0 } in
    let p = err_from_is_err_and c.from_residual-in_err-proxy.result c.from_residual-in_err-proxy.ensures.1 in
    rw (p.1, p.2) (first_refusal m setting.Proxy c.in_err-proxy.field-0.0 c.requires (at_proxy m good) c.in_err-proxy.ensures)

pub returns-in_err-refuse_number-clause-read : goal.returns-in_err-refuse_number-clause-read
returns-in_err-refuse_number-clause-read c =
    let m = table_view c.args.table.now in
    let good : AreGoodTexts m = record { name = c.in_ok-name.ensures.0; agent = c.in_ok-agent.ensures.0; contact = c.in_ok-contact.ensures.takes.0; seeds = c.in_ok-seeds.ensures.0 } in
    let bad = c.in_err-refuse_number.ensures in
    let p = err_from_is_err_and c.from_residual-in_err-refuse_number.result c.from_residual-in_err-refuse_number.ensures.1 in
    rw (p.1, p.2) (first_refusal m (setting.Number bad.0) c.in_err-refuse_number.field-0.0 c.requires (λ _. at_number m bad.0 good c.in_ok-proxy.ensures.0 bad.1) bad.2)

pub returns-in_err-rules-clause-read : goal.returns-in_err-rules-clause-read
returns-in_err-rules-clause-read c =
    let m = table_view c.args.table.now in
    let good : AreGoodTexts m = record { name = c.in_ok-name.ensures.0; agent = c.in_ok-agent.ensures.0; contact = c.in_ok-contact.ensures.takes.0; seeds = c.in_ok-seeds.ensures.0 } in
    let p = err_from_is_err_and c.from_residual-in_err-rules.result c.from_residual-in_err-rules.ensures.1 in
    rw (p.1, p.2) (first_refusal m setting.Rule c.in_err-rules.field-0.0 c.requires (at_rule m good c.in_ok-proxy.ensures.0 c.in_ok-refuse_number.ensures) c.in_err-rules.ensures)

pub returns-clause-read : goal.returns-clause-read
returns-clause-read c =
    let m = table_view c.args.table.now in
    let good : AreGoodTexts m = record { name = c.in_ok-name.ensures.0; agent = c.in_ok-agent.ensures.0; contact = c.in_ok-contact.ensures.takes.0; seeds = c.in_ok-seeds.ensures.0 } in
    record {
      same_settings = c.settings_of.ensures;
      same_seeds = c.in_ok-seeds.ensures.1.0;
      same_rules = c.in_ok-rules.ensures.1;
      taken = none_bad m good c.in_ok-proxy.ensures.0 c.in_ok-refuse_number.ensures c.in_ok-rules.ensures.0;
    }

pub returns-clause-contact : goal.returns-clause-contact
unfolding settings_in
returns-clause-contact c =
    let same : c.settings_of.result.contact ≡ c.in_ok-contact.contact = ap (λ (s : Settings). s.contact) c.settings_of.ensures ∙ sym c.in_ok-contact.ensures.takes.1 in
    subst IsUri (sym same) c.in_ok-contact.ensures.address
