use Rattle.toml.specs.View.{view}
use Rattle.crawl_kinds.specs.Text.{is_visible}
use Rattle.job_spec.specs.Texts.{is_surt}
use Rattle.job_order.proofs.Kept.{text_of_ok, no_text_of_err, surt_taken, surt_refused}
use Rattle.job_order.proofs.rule.SurtElement.of.Goals as goal

pub returns-in-Ok : goal.returns-in-Ok
unfolding is_surt
returns-in-Ok c =
    surt_taken (view c.args.value.now) c.in-Some.text.now c.in-Ok.own (rw c.in-Some.is at c.as_str.ensures) c.in-Ok.ensures.same (text_of_ok is_visible 2200 c.in-Some.text.now c.new.result c.in-Ok.own c.in-Ok.is c.new.ensures.refused)

pub returns-in-Err-TooLong : goal.returns-in-Err-TooLong
unfolding is_surt
returns-in-Err-TooLong c =
    surt_refused (view c.args.value.now) c.in-Some.text.now (rw c.in-Some.is at c.as_str.ensures) (no_text_of_err is_visible 2200 c.in-Some.text.now c.new.result c.in-Err-TooLong.field-0 c.in-Err-TooLong.is (λ is. let e = c.in-Err-TooLong.field-0-is in cc) c.new.ensures.memory)

pub returns-in-Err-BadByte : goal.returns-in-Err-BadByte
unfolding is_surt
returns-in-Err-BadByte c =
    surt_refused (view c.args.value.now) c.in-Some.text.now (rw c.in-Some.is at c.as_str.ensures) (no_text_of_err is_visible 2200 c.in-Some.text.now c.new.result c.in-Err-BadByte.field-0 c.in-Err-BadByte.is (λ is. let e = c.in-Err-BadByte.field-0-is in cc) c.new.ensures.memory)
