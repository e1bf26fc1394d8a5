use Rattle.std.proofs.Common.{◌∙◌, sym}
use Rattle.toml.specs.View.{table_view}
use Rattle.job_order.proofs.TextSettings.{name_by, no_text, bad_text, good_text, text_given}
use Rattle.job_order.proofs.KeyTexts.{name_is_key}
use Rattle.job_order.proofs.settings.name_at.Goals as goal

pub returns-in_default : goal.returns-in_default
returns-in_default c =
    let m = table_view c.args.table.now in
    c.bad.ensures m (no_text (name_by m) c.requires (rw c.in_default.is at (sym c.text_at.ensures)))

pub returns-then-not-is_name : goal.returns-then-not-is_name
returns-then-not-is_name c =
    let m = table_view c.args.table.now in
    let there = rw c.in-Some.is at (sym c.text_at.ensures) in
    c.bad-then-not-is_name.ensures m (bad_text c.in-Some.text.now (name_by m) there (sym c.is_name.ensures ∙ c.if-not-is_name.true))

pub key_of-requires : goal.key_of-requires
key_of-requires c = name_is_key c.in-Some.text.now (sym c.is_name.ensures ∙ c.if-not-is_name.false)

pub returns : goal.returns
returns c =
    let m = table_view c.args.table.now in
    let there = rw c.in-Some.is at (sym c.text_at.ensures) in
    (good_text c.in-Some.text.now (name_by m) there (sym c.is_name.ensures ∙ c.if-not-is_name.false), c.in_ok-key_of.ensures ∙ sym (text_given m _ c.in-Some.text.now there))
