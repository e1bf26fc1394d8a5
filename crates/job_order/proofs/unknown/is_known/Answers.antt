use Rattle.std.proofs.Common.{rules}
use Rattle.job_order.specs.Known.{known_names}
use Rattle.job_order.proofs.unknown.is_known.Goals as goal

pub returns-in-OfSettings : goal.returns-in-OfSettings
unfolding known_names
returns-in-OfSettings c = search rules

pub returns-in-OfRule : goal.returns-in-OfRule
unfolding known_names
returns-in-OfRule c = search rules
