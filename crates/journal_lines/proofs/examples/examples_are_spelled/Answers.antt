-- Each by computing both sides.
use Rattle.std.proofs.Common.{refl}
use Rattle.std.specs.Fmt.{digits}
use Rattle.journal_lines.proofs.examples.examples_are_spelled.Goals as goal

pub returns-clause-opening : goal.returns-clause-opening
unfolding digits
returns-clause-opening c = refl

pub returns-clause-handed_out : goal.returns-clause-handed_out
unfolding digits
returns-clause-handed_out c = refl

pub returns-clause-lacking_robots : goal.returns-clause-lacking_robots
unfolding digits
returns-clause-lacking_robots c = refl

pub returns-clause-robots_missing : goal.returns-clause-robots_missing
unfolding digits
returns-clause-robots_missing c = refl

pub returns-clause-broken_off : goal.returns-clause-broken_off
unfolding digits
returns-clause-broken_off c = refl
