use Rattle.visit_laws.proofs.Together.{visit_laws}
use Rattle.visit_laws.proofs.visits_go_on.Goals as goal

pub returns : goal.returns
returns g c = visit_laws g.V.Volume g.L.Link g.C.Clock.gives c.scans_step.ensures
