use Rattle.std.proofs.Common.{◌≡◌, ℕ, ◌+◌, length, ap, subst, sym}
use Rattle.std.proofs.lemmas.Bool.{eqb-false}
use Rattle.journal_read.specs.Faults.{IsBadLine}
use Rattle.journal_read.proofs.Progress.{bad_line, cut_line, line_read}
use Rattle.journal_read.proofs.reader.read_events.Goals as goal

pub returns-in_default-clause-bad : goal.returns-in_default-clause-bad
returns-in_default-clause-bad c n e =
    let number : c.lines.line + 1 ≡ n = cc in
    let some = eqb-false (length c.lines.rest.now) 0 (sym c.lines-test.ensures) in
    subst (λ (k : ℕ). IsBadLine k c.args.text.now) number (cut_line c.args.text.now c.lines.rest.now c.lines.line c.lines.events.items c.lines.invariant (λ none. some (ap length none)) c.in_default.ensures.parts)

pub lines-preserved : goal.lines-preserved
lines-preserved c =
    line_read c.args.text.now c.lines.rest.now c.in-Some.next.now c.in-Some.more.now c.lines.line c.lines.events.items c.read_next.new.events.items c.lines.invariant c.in-Some.ensures.whole c.in-Some.ensures.parts c.in-Ok.ensures

pub returns-in-Err-Bad-clause-bad : goal.returns-in-Err-Bad-clause-bad
returns-in-Err-Bad-clause-bad c n e =
    let number : c.lines.line + 1 ≡ n = cc in
    let some = eqb-false (length c.lines.rest.now) 0 (sym c.lines-test.ensures) in
    let bad = rw c.in-Err-Bad.field-0-is at c.in-Err-Bad.ensures in
    subst (λ (k : ℕ). IsBadLine k c.args.text.now) number (bad_line c.args.text.now c.lines.rest.now c.in-Some.next.now c.in-Some.more.now c.lines.line c.lines.events.items c.read_next.new.events.items c.lines.invariant (λ none. some (ap length none)) c.in-Some.ensures.whole c.in-Some.ensures.parts bad)
