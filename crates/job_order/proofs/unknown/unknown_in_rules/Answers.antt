use Rattle.std.proofs.Common.{◌≡◌, ◌∙◌, sym, Some, None}
use Rattle.std.proofs.lemmas.List.{drop_all}
use Rattle.toml.specs.View.{view}
use Rattle.job_spec.specs.Unknown.{unknown_in_entry}
use Rattle.job_order.proofs.Tables.{given_at}
use Rattle.job_order.proofs.unknown.unknown_in_rules.Goals as goal

pub returns-in-Some : goal.returns-in-Some
returns-in-Some c =
    let here : Some c.in-Some.name.now ≡ unknown_in_entry (view c.entry-item.result) = rw c.in-Some.is at c.unknown_in_entry.ensures in
    let at = given_at unknown_in_entry c.args.entries.now c.loop-entry.entry-index c.entry-item.result c.loop-entry-test.true c.entry-item.is in
    rw (← here) at (sym at) ∙ c.loop-entry.invariant

pub loop-entry-preserved : goal.loop-entry-preserved
loop-entry-preserved c =
    let none : None ≡ unknown_in_entry (view c.entry-item.result) = rw c.in_default.is at c.unknown_in_entry.ensures in
    let at = given_at unknown_in_entry c.args.entries.now c.loop-entry.entry-index c.entry-item.result c.loop-entry-test.true c.entry-item.is in
    rw (← none) at (sym at) ∙ c.loop-entry.invariant

pub returns : goal.returns
returns c = rw (drop_all c.loop-entry.entry-index c.args.entries.now c.loop-entry-test.false) at c.loop-entry.invariant
