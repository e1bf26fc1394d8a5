-- A number in decimal digits is what is parsed, and nothing else is.
use Rattle.std.proofs.Common.{◌≡◌, ◌≤◌, length, get_or, arith}
use Rattle.journal_read.proofs.Numbers.{no_number_empty, no_number_plus, no_number_zero, number_is_utf8, number_parses, parsed_number}
use Rattle.journal_read.proofs.number.number_of.Goals as goal
use Rattle.journal_read.proofs.number.number_of.Goals.{else-first-eq48-via-then-first-eq48+else-text-gt1, else-first-eq48-via-else-first-eq48}

pub returns-then-text-eq0 : goal.returns-then-text-eq0
returns-then-text-eq0 c = no_number_empty c.args.text.now c.args.most c.ranges.most.fits c.if-text-eq0.true

pub returns-then-first-eq43 : goal.returns-then-first-eq43
returns-then-first-eq43 c = no_number_plus c.args.text.now c.args.most c.ranges.most.fits c.if-first-eq43.true

pub returns-then-text-gt1 : goal.returns-then-text-gt1
returns-then-text-gt1 c = no_number_zero c.args.text.now c.args.most c.ranges.most.fits c.if-first-eq48.true c.if-text-gt1.true

pub returns-in_default : goal.returns-in_default
returns-in_default c n is = c.in_default.ensures.cases.0 (number_is_utf8 c.args.text.now c.args.most c.ranges.most.fits n is)

pub returns-in_default-parse : goal.returns-in_default-parse
returns-in_default-parse c n is =
    c.in_default-parse.not-Ok n (number_parses c.args.text.now c.args.most c.parse.result c.ranges.most.fits (rw (c.in-Ok.ensures.cases.0) at c.parse.ensures.value.0) n is)

pub returns-then-most-number : goal.returns-then-most-number
returns-then-most-number c n is =
    let same = number_parses c.args.text.now c.args.most c.parse.result c.ranges.most.fits (rw (c.in-Ok.ensures.cases.0) at c.parse.ensures.value.0) n is in
    let e : n ≡ c.in-Ok-parse.number = cc in
    omega (arith, e, is.1)

pub returns : goal.returns
returns c =
    let no_zero : get_or c.args.text.now 0 0 ≡ 48 → length c.args.text.now ≤ 1 =
    λ z. elim c.else-first-eq48.branch [ else-first-eq48-via-then-first-eq48+else-text-gt1 w ↦ omega arith | else-first-eq48-via-else-first-eq48 w ↦ absurd (omega arith) ] in
    (parsed_number c.args.text.now c.in-Ok-parse.number c.parse.result c.in-Ok-parse.is (rw (c.in-Ok.ensures.cases.0) at c.parse.ensures.value.0) c.if-first-eq43.false no_zero, c.if-most-number.false)
