-- A text that spells a fetch has two parts, and those are its numbers.
use Rattle.journal_read.proofs.Fetches.{fetch_cut, fetch_parts}
use Rattle.journal_read.proofs.fetch.times_of.Goals as goal

pub returns-in_default : goal.returns-in_default
returns-in_default c x is = fetch_cut c.args.text.now x is.1 is.0 c.in_default.ensures.parts

pub returns-in_default-number_of : goal.returns-in_default-number_of
returns-in_default-number_of c x is =
    let p = fetch_parts c.args.text.now c.in-Some.start.now c.in-Some.duration.now x is.1 is.0 c.in-Some.ensures.parts in
    c.in_default-number_of.ensures x.start (p.0, is.1.start)

pub returns-in_default-number_of-2 : goal.returns-in_default-number_of-2
returns-in_default-number_of-2 c x is =
    let p = fetch_parts c.args.text.now c.in-Some.start.now c.in-Some.duration.now x is.1 is.0 c.in-Some.ensures.parts in
    c.in_default-number_of-2.ensures x.duration (p.1, is.1.duration)
