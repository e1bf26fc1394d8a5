use Rattle.std.proofs.Common.{◌∙◌, sym, ap}
use Rattle.toml.specs.View.{table_view}
use Rattle.job_spec.specs.declared.setting.Setting.TheVariants as setting
use Rattle.job_spec.specs.Gives.{address_of}
use Rattle.job_order.proofs.Contacts.{contact_read, contact_refused}
use Rattle.job_order.proofs.TextSettings.{contact_by, no_text, bad_text, good_text, text_given}
use Rattle.job_order.proofs.settings.contact_at.Goals as goal

pub returns-in_default-clause-takes : goal.returns-in_default-clause-takes
returns-in_default-clause-takes c =
    let m = table_view c.args.table.now in
    c.bad.ensures m (no_text (contact_by m) c.requires (rw c.in_default.is at (sym c.text_at.ensures)))

pub returns-in-Ok-clause-takes : goal.returns-in-Ok-clause-takes
returns-in-Ok-clause-takes c =
    let m = table_view c.args.table.now in
    let text = c.in-Some.text.now in
    let there = rw c.in-Some.is at (sym c.text_at.ensures) in
    let read = contact_read text c.in-Ok.uri c.parse_uri.result c.parse_uri.ensures.answer c.in-Ok.is in
    (good_text text (contact_by m) there read.0, read.1 ∙ ap address_of (sym (text_given m setting.Contact text there)))

pub returns-in-Err-TooLong-clause-takes : goal.returns-in-Err-TooLong-clause-takes
returns-in-Err-TooLong-clause-takes c =
    let m = table_view c.args.table.now in
    let text = c.in-Some.text.now in
    let there = rw c.in-Some.is at (sym c.text_at.ensures) in
    let refused = contact_refused text c.parse_uri.result c.in-Err-TooLong.field-0 c.parse_uri.ensures.answer c.in-Err-TooLong.is (λ none. let kind = c.in-Err-TooLong.field-0-is in cc) in
    c.bad-in-Err-TooLong.ensures m (bad_text text (contact_by m) there refused)

pub returns-in-Err-NotAUri-clause-takes : goal.returns-in-Err-NotAUri-clause-takes
returns-in-Err-NotAUri-clause-takes c =
    let m = table_view c.args.table.now in
    let text = c.in-Some.text.now in
    let there = rw c.in-Some.is at (sym c.text_at.ensures) in
    let refused = contact_refused text c.parse_uri.result c.in-Err-NotAUri.field-0 c.parse_uri.ensures.answer c.in-Err-NotAUri.is (λ none. let kind = c.in-Err-NotAUri.field-0-is in cc) in
    c.bad-in-Err-NotAUri.ensures m (bad_text text (contact_by m) there refused)

pub returns-in-Err-OtherScheme-clause-takes : goal.returns-in-Err-OtherScheme-clause-takes
returns-in-Err-OtherScheme-clause-takes c =
    let m = table_view c.args.table.now in
    let text = c.in-Some.text.now in
    let there = rw c.in-Some.is at (sym c.text_at.ensures) in
    let refused = contact_refused text c.parse_uri.result c.in-Err-OtherScheme.field-0 c.parse_uri.ensures.answer c.in-Err-OtherScheme.is (λ none. let kind = c.in-Err-OtherScheme.field-0-is in cc) in
    c.bad-in-Err-OtherScheme.ensures m (bad_text text (contact_by m) there refused)
