-- A text that spells a place has three parts, and those are its numbers.
use Rattle.journal_read.proofs.Fetches.{spot_no_cut, spot_one_cut, spot_parts}
use Rattle.journal_read.proofs.fetch.spot_of.Goals as goal

pub returns-in_default : goal.returns-in_default
returns-in_default c x is = spot_no_cut c.args.text.now x is.1 is.0 c.in_default.ensures.parts

pub returns-in_default-cut : goal.returns-in_default-cut
returns-in_default-cut c x is =
    spot_one_cut c.args.text.now c.in-Some.file.now c.in-Some.rest.now x is.1 is.0 c.in-Some.ensures.parts c.in_default-cut.ensures.parts

pub returns-in_default-number_of : goal.returns-in_default-number_of
returns-in_default-number_of c x is =
    let p = spot_parts c.args.text.now c.in-Some.file.now c.in-Some.rest.now c.in-Some-cut.at.now c.in-Some-cut.len.now x is.1 is.0 c.in-Some.ensures.parts c.in-Some-cut.ensures.parts in
    c.in_default-number_of.ensures x.file (p.0, is.1.file)

pub returns-in_default-number_of-2 : goal.returns-in_default-number_of-2
returns-in_default-number_of-2 c x is =
    let p = spot_parts c.args.text.now c.in-Some.file.now c.in-Some.rest.now c.in-Some-cut.at.now c.in-Some-cut.len.now x is.1 is.0 c.in-Some.ensures.parts c.in-Some-cut.ensures.parts in
    c.in_default-number_of-2.ensures x.at (p.1, is.1.at)

pub returns-in_default-number_of-3 : goal.returns-in_default-number_of-3
returns-in_default-number_of-3 c x is =
    let p = spot_parts c.args.text.now c.in-Some.file.now c.in-Some.rest.now c.in-Some-cut.at.now c.in-Some-cut.len.now x is.1 is.0 c.in-Some.ensures.parts c.in-Some-cut.ensures.parts in
    c.in_default-number_of-3.ensures x.len (p.2, is.1.len)
