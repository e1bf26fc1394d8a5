use Rattle.std.proofs.Common.{◌≡◌, take, min}
use Rattle.link_spec.specs.Entities.{number}
use Rattle.html_links.specs.Reading.{past_last}
use Rattle.html_links.proofs.entities.hexadecimal_number.Given as goal

abbrev pub invariant-loop-digit : goal.invariant-loop-digit
invariant-loop-digit l = l.number ≡ min past_last (number 16 (take l.digit-index l.digits))
