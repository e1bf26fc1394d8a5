use Rattle.std.proofs.Common.{refl}
use Rattle.visit_laws.specs.Laws.{world_in}
use Rattle.crawl_laws.proofs.Held.{held_valid, visits_held}
use Rattle.visit_spec.specs.Visits.{events}
use Rattle.crawl_laws.proofs.visits_are_held.Goals as goal

pub returns : goal.returns
returns g c time old new visits held journal before files a are holds file end is_archive =
    visits_held c.what_is_written_is_held.ensures old.settings files a is_archive c.scans_step.ensures (world_in g.L.Link g.C.Clock.gives time) old new visits before refl are
    (held_valid held (events visits) journal holds) file end
