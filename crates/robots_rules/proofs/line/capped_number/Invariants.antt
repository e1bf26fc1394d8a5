use Rattle.std.proofs.Common.{◌≡◌, take, min}
use Rattle.robots_spec.specs.Lines.{decimal_number, most_seconds}
use Rattle.robots_rules.proofs.line.capped_number.Given as goal

abbrev pub invariant-loop-digit : goal.invariant-loop-digit
invariant-loop-digit l = l.number ≡ min most_seconds (decimal_number (take l.digit-index l.digits))
