use Rattle.finish_laws.proofs.Going.{visit_goes_on}
use Rattle.finish_laws.proofs.visit_goes_on.Goals as goal

pub returns : goal.returns
returns g c = visit_goes_on g.L.Link g.C.Clock.gives c.scans_step.ensures c.processed_may_end.ensures
