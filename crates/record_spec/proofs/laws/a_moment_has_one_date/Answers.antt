use Rattle.record_spec.proofs.DateLaws.{one_date}
use Rattle.record_spec.proofs.laws.a_moment_has_one_date.Goals as goal

pub returns : goal.returns
returns c = one_date
